-- A limit on the bytes of a file is told only where the last fetch found that file too long.
use Rattle.std.proofs.Common.{◌≡◌, ◌<◌, [], Option, Some, None, Ok, ⊎_elim, refl, sym, ap, ◌∙◌, subst}
use Rattle.dp_io.specs.Shelf.{ShelfView}
use Rattle.dp_io.specs.Sink.{SinkView, Puts}
use Rattle.dp_io.specs.declared.sink.SinkFailed.{SinkFailed}
use Rattle.dp_words.specs.declared.job.Job.{Job}
use Rattle.dp_cli.specs.declared.refusal.FileRole.{FileRole}
use Rattle.dp_cli.specs.declared.refusal.FileRole.TheVariants as roles
use Rattle.dp_cli.specs.declared.refusal.JobFault.{JobFault}
use Rattle.dp_cli.specs.declared.refusal.Refusal.{Refusal}
use Rattle.dp_cli.specs.declared.refusal.Refusal.TheVariants as refusals
use Rattle.dp_cli.specs.declared.status.Status.{Status}
use Rattle.dp_cli.specs.declared.status.Status.TheVariants as statuses
use Rattle.dp_cli.specs.Answer.{Answer, IsAnswerOf, refused}
use Rattle.dp_cli.specs.Causes.{IsCause, TellsLimit, TellsLimitOf}
use Rattle.dp_cli.specs.Command.{Command}
use Rattle.dp_cli.specs.Refusal.{most_bytes, role_limit}
use Rattle.dp_cli.specs.Run.{Runs}
use Rattle.dp_cli.proofs.Causes.{kept_put, kept_status}
use Rattle.dp_cli.proofs.Commands.{command_is_sound}
use Rattle.dp_cli.proofs.Finding.{caused}
use Rattle.dp_cli.proofs.Sound.{IsSound}
use Rattle.dp_cli.proofs.Statuses.{fault_apart, status_of}

-- the limit of a file has its role
role_of_limit : (role other : FileRole) → role_limit role ≡ role_limit other → role ≡ other
role_of_limit roles.Model roles.Model e = refl
role_of_limit roles.Model roles.Second e = cc
role_of_limit roles.Second roles.Model e = cc
role_of_limit roles.Second roles.Second e = refl

-- what is told where a cause has the status of a passed limit
tells_limit : {command : Command} {shelf shelf' : ShelfView} {sink sink' : SinkView} {refusal : Option Refusal}
    (answer : Answer)
    → IsSound command → IsCause command command.files [] shelf shelf' refusal
    → IsAnswerOf refusal (λ text. Unit {0}) answer → answer.status ≡ statuses.TooLarge
    → Puts {T = Unit {0}} {E = SinkFailed} sink sink' answer.text (Ok tt)
    → TellsLimit command shelf shelf' sink sink'
tells_limit answer sound (IsCause.failed file front rest asked logged) is e put =
    let status = sym (status_of is) ∙ e in absurd cc
tells_limit {sink = sink} {sink' = sink'} answer sound (IsCause.long file count front rest asked logged over)
    is e put = record {
      passed = record { what = role_limit file.role; count = count };
      put = subst (λ (a : Answer). Puts {T = Unit {0}} {E = SinkFailed} sink sink' a.text (Ok tt)) is put;
      long = λ role of_file none.
          let same = role_of_limit file.role role of_file in
          record {
            file = file;
            is_of = same;
            front = front;
            rest = rest;
            asked = asked;
            appended = logged;
            over = subst (λ (r : FileRole). most_bytes r < count) same over;
          };
    }
tells_limit {sink = sink} {sink' = sink'} answer sound (IsCause.wrong fault more front rest asked given before
    wrong) is e put =
    let limit = (fault_apart fault).limit (sym (status_of is) ∙ e) in
    let told = subst (λ (f : JobFault). answer ≡ refused (refusals.Fault f)) limit.1 is in
    record {
      passed = limit.0;
      put = subst (λ (a : Answer). Puts {T = Unit {0}} {E = SinkFailed} sink sink' a.text (Ok tt)) told put;
      long = λ role of_file none. absurd (none (sound.limits more limit.0 role (wrong ∙ ap Some limit.1)
          of_file));
    }
tells_limit answer sound (IsCause.nothing more given before fine) is e put =
    let status = sym is.0 ∙ e in absurd cc

pub too_long : (job : Option Job) (shelf shelf' : ShelfView) (sink sink' : SinkView) (result : Status)
    → Runs job shelf shelf' sink sink' result → result ≡ statuses.TooLarge
    → TellsLimitOf job shelf shelf' sink sink'
too_long None shelf shelf' sink sink' result h told =
    let status = sym (kept_status h.puts.reply _ _ h.puts.ended (λ fault. cc)) ∙ told in
    ⊎_elim (λ is. absurd cc) (λ is. absurd cc) h.replies.1
too_long (Some job) shelf shelf' sink sink' result h told =
    let status = sym (kept_status h.puts.reply _ _ h.puts.ended (λ fault. cc)) ∙ told in
    let why = caused h.replies (λ e. cc) in
    tells_limit h.answer (command_is_sound job) why.cause why.answers status
    (kept_put h.puts.reply _ _ h.puts.put h.puts.ended (λ fault. cc))
