-- Where the leads are the same, the lengths tell keys within the extent.
use Rattle.std.proofs.Common.{List, ℕ, ◌+◌, sym, subst₂}
use Rattle.arena_list.specs.Leads.{LengthsTell}
use Rattle.arena_list.proofs.Fronts.{told_of}
use Rattle.arena_list.proofs.node.Node.has_key_of.Goals as goal

pub is_same_key-requires : goal.is_same_key-requires
is_same_key-requires c =
    let told = told_of c.args.shared c.args.self.now c.args.other.now c.requires in
    subst₂ (λ (one other : List ℕ). LengthsTell one other (c.args.shared + 8)) (sym c.key-key.ensures) (sym c.key.ensures)
    (told.same c.if-self-other.true)
