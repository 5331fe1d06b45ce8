use Rattle.std.proofs.Common.{◌≡◌, ◌++◌, List, length, get_or, set, refl, ap, subst, ◌∙◌, arith}
use Rattle.std.proofs.lemmas.Result.{err_from_is_err_and}
use Rattle.dp_spec.specs.declared.node.ArenaNode.{ArenaNode}
use Rattle.dp_spec.specs.declared.node.NodeKind.TheVariants as kinds
use Rattle.dp_spec.specs.Arena.{grown}
use Rattle.dp_tree.specs.Nodes.{Nodes, IsArenaWithin}
use Rattle.dp_tree.proofs.Within.{written, grows_within}
use Rattle.dp_tree.proofs.arena.NodeArena.grow.Goals as goal

pub returns-in_err-children-clause-full : goal.returns-in_err-children-clause-full
returns-in_err-children-clause-full c =
    let same : c.self.inside.nodes.items ≡ c.args.self.now.nodes = ap (λ (v : Nodes). v.nodes) c.self.view_is in
    let most : c.self.inside.most ≡ c.args.self.now.most = ap (λ (v : Nodes). v.most) c.self.view_is in
    let len : length c.self.inside.nodes.items ≡ length c.args.self.now.nodes = ap length same in
    let count = c.self.inside.nodes.ok.0 in
    let few = c.self.invariant.few in
    let p = err_from_is_err_and c.from_residual.result c.from_residual.ensures.1 in
    rw (p.1, p.2) (λ e. absurd (cc e), λ h. absurd (omega arith))

pub returns-in_err-append-clause-full : goal.returns-in_err-append-clause-full
returns-in_err-append-clause-full c =
    let same : c.self.inside.nodes.items ≡ c.args.self.now.nodes = ap (λ (v : Nodes). v.nodes) c.self.view_is in
    let most : c.self.inside.most ≡ c.args.self.now.most = ap (λ (v : Nodes). v.most) c.self.view_is in
    let len : length c.self.inside.nodes.items ≡ length c.args.self.now.nodes = ap length same in
    let count = c.self.inside.nodes.ok.0 in
    let few = c.self.invariant.few in
    let p = err_from_is_err_and c.from_residual-in_err-append.result c.from_residual-in_err-append.ensures.1 in
    rw (p.1, p.2) (λ e. absurd (cc e), λ h. absurd (omega arith))

-- the nodes after the write
nodes_after : (c : goal.After-drop-children-2) →
    set (c.self.inside.nodes.items ++ c.in_ok-children.children.items) c.args.leaf
    (record {
      above = c.index_mut.result.now.above;
      kind = kinds.Inner c.args.step c.len-first.result (length
          c.args.bounds.now);
    })
    ≡ grown c.args.self.now.nodes c.args.leaf c.args.step c.args.bounds.now
nodes_after c =
    let same : c.self.inside.nodes.items ≡ c.args.self.now.nodes = ap (λ (v : Nodes). v.nodes) c.self.view_is in
    let count : c.len-first.result ≡ length c.self.inside.nodes.items = let ok = c.self.inside.nodes.ok.0 in omega
    (arith, c.len-first.ensures) in
    let over : c.index_mut.result.now ≡ get_or (c.self.inside.nodes.items ++ c.in_ok-children.children.items)
    c.args.leaf c.index_mut.result.now =
    c.index_mut.ensures.value ∙ ap (λ z. get_or z c.args.leaf c.index_mut.result.now) c.in_ok-append.ensures.items in
    ap (λ n. set (c.self.inside.nodes.items ++ c.in_ok-children.children.items) c.args.leaf (record {
      above =
          c.index_mut.result.now.above;
      kind = kinds.Inner c.args.step n (length c.args.bounds.now);
    })) count
    ∙ written c.args.self.now.nodes c.self.inside.nodes.items c.in_ok-children.children.items c.args.leaf
    c.args.step c.args.bounds.now c.index.result.now c.index_mut.result.now c.requires.node same c.index.ensures
    c.in_ok-children.ensures over

pub invariant_of-self-2 : goal.invariant_of-self-2
invariant_of-self-2 c =
    let same : c.self.inside.nodes.items ≡ c.args.self.now.nodes = ap (λ (v : Nodes). v.nodes) c.self.view_is in
    let count : c.len-first.result ≡ length c.self.inside.nodes.items = let ok = c.self.inside.nodes.ok.0 in omega
    (arith, c.len-first.ensures) in
    let len : length c.self.inside.nodes.items ≡ length c.args.self.now.nodes = ap length same in
    let few = c.self.invariant.few in
    let within = subst (λ (z : List ArenaNode). IsArenaWithin z c.self.inside.most) same c.self.invariant in
    rw (c.in_ok-append.ensures.items, nodes_after c)
    (grows_within c.args.self.now.nodes c.args.leaf c.args.step c.args.bounds.now c.self.inside.most within
    c.requires.node c.requires.is_leaf c.requires.shallow c.requires.children (let room = c.if-bounds-self.false
    in omega arith))

pub returns-clause-ok : goal.returns-clause-ok
returns-clause-ok c =
    let most : c.self.inside.most ≡ c.args.self.now.most = ap (λ (v : Nodes). v.most) c.self.view_is in
    rw (c.in_ok-append.ensures.items, nodes_after c, most) refl
