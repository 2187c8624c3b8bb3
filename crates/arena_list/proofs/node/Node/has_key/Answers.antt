-- Equal keys have equal leads.
use Rattle.std.proofs.Common.{◌≡◌, true, false, nat_eq, ne_eqb}
use Rattle.arena_list.specs.Nodes.{key_of}
use Rattle.arena_list.proofs.Fronts.{leads_equal}
use Rattle.arena_list.proofs.node.Node.has_key.Goals as goal

pub returns-else-self-sought : goal.returns-else-self-sought
returns-else-self-sought c =
    let node = c.args.self.now in
    let sought = c.args.sought.now in (
      λ t.
          let f : nat_eq node.lead sought.lead ≡ false = ne_eqb node.lead sought.lead c.if-self-sought.false in
          let is : nat_eq node.lead sought.lead ≡ true = t in
          absurd cc,
      λ same. absurd (c.if-self-sought.false (leads_equal (key_of node.held) node.lead sought.key.now sought.lead sought.extent c.requires same)),
    )
