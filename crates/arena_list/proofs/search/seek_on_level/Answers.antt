-- The next place stands on the level. Where the search stops there, the level is cut.
use Rattle.std.proofs.Common.{◌≢◌, Contains, ℕ, ◌<◌, length, inl, inr, sym, ◌∙◌, subst}
use Rattle.arena_list.specs.Versions.{KeyVersion, GoesBefore}
use Rattle.std.proofs.lemmas.Bool.{iff_false}
use Rattle.arena_list.specs.Chains.{path}
use Rattle.arena_list.specs.Nodes.{next_on, places_on, version_at}
use Rattle.arena_list.specs.Steps.{MayGoOn, MayStop}
use Rattle.arena_list.proofs.Levels.{read_next, version_read, within_lowest}
use Rattle.arena_list.proofs.Cuts.{next_within, next_below, goes_on, goes_less, cut_here}
use Rattle.arena_list.proofs.Fronts.{told_read}
use Rattle.arena_list.proofs.search.seek_on_level.Goals as goal

pub bounds-nodes-next : goal.bounds-nodes-next
bounds-nodes-next c =
    let sought = c.args.sought.now in
    let inv = c.loop-next.invariant in
    subst (λ (p : ℕ). p < length c.args.nodes.now) (sym inv.next)
    (next_below c.args.nodes.now c.requires.linked c.args.level c.requires.level sought.key.now sought.number c.loop-next.last inv.goes
    (λ e. c.if-next-ne0.true (inv.next ∙ e)))

pub bounds-nodes-last-then-is_before : goal.bounds-nodes-last-then-is_before
bounds-nodes-last-then-is_before c =
    let sought = c.args.sought.now in
    let inv = c.loop-next.invariant in
    subst (λ (p : ℕ). p < length c.args.nodes.now) (sym inv.next)
    (next_below c.args.nodes.now c.requires.linked c.args.level c.requires.level sought.key.now sought.number c.loop-next.last inv.goes
    (λ e. c.if-next-ne0.true (inv.next ∙ e)))

pub is_before-requires : goal.is_before-requires
is_before-requires c =
    let sought = c.args.sought.now in
    let nodes = c.args.nodes.now in
    let inv = c.loop-next.invariant in
    let some : next_on nodes c.args.level c.loop-next.last ≢ 0 = λ e. c.if-next-ne0.true (inv.next ∙ e) in
    let there : Contains (places_on nodes c.args.level) c.loop-next.next =
    subst (Contains (places_on nodes c.args.level)) (sym inv.next)
    (next_within nodes c.requires.linked c.args.level c.requires.level sought.key.now sought.number c.loop-next.last inv.goes some) in
    let within : c.loop-next.next < length nodes =
    ((c.requires.linked.levels c.args.level c.requires.level).held c.loop-next.next there).0 in
    told_read nodes sought c.loop-next.next c.index-nodes-next.result c.requires.told
    (within_lowest nodes c.requires.linked c.args.level c.loop-next.next c.requires.level there) within c.index-nodes-next.is

pub loop-next-smaller : goal.loop-next-smaller
loop-next-smaller c =
    let sought = c.args.sought.now in
    let nodes = c.args.nodes.now in
    let inv = c.loop-next.invariant in
    let within : c.loop-next.next < length nodes =
    subst (λ (p : ℕ). p < length nodes) (sym inv.next)
    (next_below nodes c.requires.linked c.args.level c.requires.level sought.key.now sought.number c.loop-next.last inv.goes
    (λ e. c.if-next-ne0.true (inv.next ∙ e))) in
    let left : ℕ → ℕ = λ p. length (path (next_on nodes c.args.level) p (length nodes)) in
    subst (λ (p : ℕ). left p < left c.loop-next.next)
    (sym (read_next nodes c.args.level c.loop-next.next c.index-nodes-last-in-loop-next.result within))
    (subst (λ (p : ℕ). left (next_on nodes c.args.level p) < left p) (sym inv.next)
    (goes_less nodes c.requires.linked c.args.level c.requires.level sought.key.now sought.number c.loop-next.last inv.goes
    (λ e. c.if-next-ne0.true (inv.next ∙ e))))

pub loop-next-preserved : goal.loop-next-preserved
loop-next-preserved c =
    let sought = c.args.sought.now in
    let nodes = c.args.nodes.now in
    let inv = c.loop-next.invariant in
    let some : next_on nodes c.args.level c.loop-next.last ≢ 0 = λ e. c.if-next-ne0.true (inv.next ∙ e) in
    let within : c.loop-next.next < length nodes =
    subst (λ (p : ℕ). p < length nodes) (sym inv.next)
    (next_below nodes c.requires.linked c.args.level c.requires.level sought.key.now sought.number c.loop-next.last inv.goes some) in
    let early : GoesBefore (version_at nodes c.loop-next.next) sought.key.now sought.number =
    subst (λ (v : KeyVersion). GoesBefore v sought.key.now sought.number)
    (version_read nodes c.loop-next.next c.index-nodes-next.result c.index-nodes-next.is within)
    (c.is_before.ensures.0 c.if-is_before.true) in record {
      goes = subst (MayGoOn nodes c.args.level sought.key.now sought.number) (sym inv.next)
          (goes_on nodes c.requires.linked c.args.level c.requires.level sought.key.now sought.number c.loop-next.last inv.goes some
          (subst (λ (p : ℕ). GoesBefore (version_at nodes p) sought.key.now sought.number) inv.next early));
      next = read_next nodes c.args.level c.loop-next.next c.index-nodes-last-in-loop-next.result within;
    }

pub returns-else-is_before-clause-cut : goal.returns-else-is_before-clause-cut
returns-else-is_before-clause-cut c =
    let sought = c.args.sought.now in
    let nodes = c.args.nodes.now in
    let inv = c.loop-next.invariant in
    let some : next_on nodes c.args.level c.loop-next.last ≢ 0 = λ e. c.if-next-ne0.true (inv.next ∙ e) in
    let within : c.loop-next.next < length nodes =
    subst (λ (p : ℕ). p < length nodes) (sym inv.next)
    (next_below nodes c.requires.linked c.args.level c.requires.level sought.key.now sought.number c.loop-next.last inv.goes some) in
    cut_here nodes c.requires.linked c.args.level c.requires.level sought.key.now sought.number c.loop-next.last inv.goes
    (inr (λ early. iff_false c.is_before.ensures c.if-is_before.false
    (subst (λ (v : KeyVersion). GoesBefore v sought.key.now sought.number)
    (sym (version_read nodes c.loop-next.next c.index-nodes-next.result c.index-nodes-next.is within))
    (subst (λ (p : ℕ). GoesBefore (version_at nodes p) sought.key.now sought.number) (sym inv.next) early))))

pub returns-else-next-ne0-clause-cut : goal.returns-else-next-ne0-clause-cut
returns-else-next-ne0-clause-cut c =
    let sought = c.args.sought.now in
    cut_here c.args.nodes.now c.requires.linked c.args.level c.requires.level sought.key.now sought.number c.loop-next.last c.loop-next.invariant.goes
    (inl (sym c.loop-next.invariant.next ∙ c.if-next-ne0.false))

pub returns-after-loop-next-clause-cut : goal.returns-after-loop-next-clause-cut
returns-after-loop-next-clause-cut c =
    let sought = c.args.sought.now in
    cut_here c.args.nodes.now c.requires.linked c.args.level c.requires.level sought.key.now sought.number c.loop-next.last c.loop-next.invariant.goes
    (subst (MayStop c.args.nodes.now sought.key.now sought.number) (sym c.loop-next-test.false ∙ c.loop-next.invariant.next) c.requires.next)
