-- What the lines before the policy say, as the code keeps it.
use Rattle.dp_cert.specs.CertificateGrammar as grammars
use Rattle.dp_cert.specs.declared.head.Head.{Head}
use Rattle.dp_cert.specs.declared.head.Interval.{Interval}

abbrev pub interval_of : Interval → grammars.Interval
interval_of i = record { unit = i.unit; lower = i.lower; upper = i.upper }

abbrev pub head_of : Head → grammars.Head
head_of h = record { look = h.look; is_exact = h.exact; interval = interval_of h.interval; inner = h.inner }
