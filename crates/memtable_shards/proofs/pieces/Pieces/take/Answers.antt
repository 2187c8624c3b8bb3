-- The first list that is not empty, under its numbers.
use Rattle.std.proofs.Common.{◌≡◌, ℕ, List, ◌+◌, Option, Some, sym, ap, ◌∙◌, subst}
use Rattle.std.proofs.Math.ListN.{set}
use Rattle.memtable_shards.specs.Versions.{Version}
use Rattle.memtable_shards.specs.Parts.{MayWait, AreCut}
use Rattle.memtable_shards.specs.Pieces.{PiecesLeft, NoPieceIsLeft, IsNextPiece}
use Rattle.memtable_shards.proofs.Handing.{piece_waits, next_piece, cut_rest, none_left}
use Rattle.memtable_shards.proofs.pieces.Pieces.take.Goals as goal

pub returns-in_err-shard-clause-none : goal.returns-in_err-shard-clause-none
returns-in_err-shard-clause-none c =
    let entries = c.self.inside.entries.value in
    let cut : AreCut entries (Some c.in-Some.first) c.self.inside.from c.self.inside.lists =
    subst (λ (f : Option ℕ). AreCut entries f c.self.inside.from c.self.inside.lists) c.in-Some.is c.self.invariant in
    let is : record { entries = entries; first = Some c.in-Some.first; from = c.self.inside.from } ≡ c.args.self.now =
    ap (λ (f : Option ℕ). record { entries = entries; first = f; from = c.self.inside.from }) (sym c.in-Some.is) ∙ c.self.view_is in
    rw c.from_residual.ensures
    (subst NoPieceIsLeft is (none_left entries c.in-Some.first c.self.inside.from c.self.inside.lists cut c.in_err-shard.ensures.none))

pub number_nodes-nodes-requires : goal.number_nodes-nodes-requires
number_nodes-nodes-requires c =
    let entries = c.self.inside.entries.value in
    piece_waits entries c.in-Some.first c.self.inside.from c.in_ok-shard.shard c.self.inside.lists c.take_list.result c.index-self-shard.result
    (subst (λ (f : Option ℕ). AreCut entries f c.self.inside.from c.self.inside.lists) c.in-Some.is c.self.invariant) c.in_ok-shard.ensures.some
    c.take_list.ensures.taken

pub invariant_of-result : goal.invariant_of-result
invariant_of-result c =
    let entries = c.self.inside.entries.value in
    subst MayWait (sym c.number_nodes-nodes.ensures)
    (piece_waits entries c.in-Some.first c.self.inside.from c.in_ok-shard.shard c.self.inside.lists c.take_list.result c.index-self-shard.result
    (subst (λ (f : Option ℕ). AreCut entries f c.self.inside.from c.self.inside.lists) c.in-Some.is c.self.invariant) c.in_ok-shard.ensures.some
    c.take_list.ensures.taken)

pub invariant_of-self : goal.invariant_of-self
invariant_of-self c =
    let entries = c.self.inside.entries.value in
    let shard = c.in_ok-shard.shard in
    subst (λ (list : List Version). AreCut entries c.self.inside.first (shard + 1) (set c.self.inside.lists shard list)) (sym c.take_list.ensures.left)
    (cut_rest entries c.self.inside.first c.self.inside.from shard c.self.inside.lists c.self.invariant c.in_ok-shard.ensures.some)

pub returns-clause-next : goal.returns-clause-next
returns-clause-next c =
    let entries = c.self.inside.entries.value in
    let cut : AreCut entries (Some c.in-Some.first) c.self.inside.from c.self.inside.lists =
    subst (λ (f : Option ℕ). AreCut entries f c.self.inside.from c.self.inside.lists) c.in-Some.is c.self.invariant in
    let is : record { entries = entries; first = Some c.in-Some.first; from = c.self.inside.from } ≡ c.args.self.now =
    ap (λ (f : Option ℕ). record { entries = entries; first = f; from = c.self.inside.from }) (sym c.in-Some.is) ∙ c.self.view_is in
    subst (λ (left : PiecesLeft). IsNextPiece left c.in_ok-shard.shard c.number_nodes-nodes.result) is
    (next_piece entries c.in-Some.first c.self.inside.from c.in_ok-shard.shard c.self.inside.lists c.take_list.result c.index-self-shard.result
    c.number_nodes-nodes.result cut c.in_ok-shard.ensures.some c.take_list.ensures.taken c.number_nodes-nodes.ensures)
