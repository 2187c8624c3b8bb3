-- The edges tell the range deletes that were there, until the new one stands among them and they tell it, too.
use Rattle.std.proofs.Common.{◌≡◌, ◌∷◌, subst, sym, ◌∙◌}
use Rattle.std.proofs.lemmas.Bool.{iff_false}
use Rattle.range_cover.specs.declared.mark.RangeMark.{RangeMark}
use Rattle.range_cover.specs.Marks.{StandsBefore, AreInNumberOrder}
use Rattle.range_cover.specs.Edges.{HasEdge, IsCover}
use Rattle.range_cover.proofs.Telling.{cover_moved}
use Rattle.range_cover.proofs.Raised.{covers_nothing}
use Rattle.range_cover.proofs.cover.RangeCover.add.Goals as goal

pub invariant_of-self-then-not-covers_some : goal.invariant_of-self-then-not-covers_some
invariant_of-self-then-not-covers_some c =
    let edges = c.self.inside.edges.versions in
    let items = c.self.inside.marks.items in (
      c.in_ok-insert_mark.ensures.order,
      cover_moved edges (c.args.mark ∷ items) c.insert_mark.new.marks.items c.in_ok-insert_mark.ensures.added
          (covers_nothing edges c.args.mark items (λ less. iff_false c.covers_some.ensures c.if-not-covers_some.true less) c.self.invariant.1),
    )

pub invariant_of-self-in_err-add_edges : goal.invariant_of-self-in_err-add_edges
invariant_of-self-in_err-add_edges c = (c.self.invariant.0, c.in_err-add_edges.ensures.told c.self.inside.marks.items c.self.invariant.1)

pub invariant_of-self-in_err-place : goal.invariant_of-self-in_err-place
invariant_of-self-in_err-place c = (
  subst AreInNumberOrder (sym c.in_err-place.ensures.same) c.self.invariant.0,
  subst (IsCover c.add_edges.new.edges.versions) (sym c.in_err-place.ensures.same)
      (c.in_ok-add_edges.ensures.told c.self.inside.marks.items c.self.invariant.1),
)

pub raise-requires-clause-some : goal.raise-requires-clause-some
raise-requires-clause-some c =
    let at : c.index.result.now ≡ c.args.mark = c.index.ensures ∙ c.in_ok-place.ensures.at c.index.result.now in
    subst (λ (m : RangeMark). StandsBefore m.start m.end) (sym at) (c.covers_some.ensures.0 c.if-not-covers_some.false)

pub raise-requires-clause-covers : goal.raise-requires-clause-covers
raise-requires-clause-covers c = (c.self.inside.marks.items, c.in_ok-add_edges.ensures.told c.self.inside.marks.items c.self.invariant.1)

pub raise-requires-clause-start : goal.raise-requires-clause-start
raise-requires-clause-start c =
    let at : c.index.result.now ≡ c.args.mark = c.index.ensures ∙ c.in_ok-place.ensures.at c.index.result.now in
    subst (λ (m : RangeMark). HasEdge c.add_edges.new.edges.versions m.start) (sym at) c.in_ok-add_edges.ensures.start

pub raise-requires-clause-end : goal.raise-requires-clause-end
raise-requires-clause-end c =
    let at : c.index.result.now ≡ c.args.mark = c.index.ensures ∙ c.in_ok-place.ensures.at c.index.result.now in
    subst (λ (m : RangeMark). HasEdge c.add_edges.new.edges.versions m.end) (sym at) c.in_ok-add_edges.ensures.end

pub invariant_of-self-2 : goal.invariant_of-self-2
invariant_of-self-2 c =
    let edges = c.raise.new.edges.versions in
    let items = c.self.inside.marks.items in
    let at : c.index.result.now ≡ c.args.mark = c.index.ensures ∙ c.in_ok-place.ensures.at c.index.result.now in (
      c.in_ok-place.ensures.order,
      cover_moved edges (c.args.mark ∷ items) c.insert_mark-2.new.marks.items c.in_ok-place.ensures.added
          (subst (λ (m : RangeMark). IsCover edges (m ∷ items)) at (c.raise.ensures items (c.in_ok-add_edges.ensures.told items c.self.invariant.1))),
    )
