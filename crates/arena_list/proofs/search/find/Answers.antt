-- The version that is held stands where the search lands.
use Rattle.std.proofs.Common.{subst, sym, slice_index, slice_index_or}
use Rattle.std.proofs.lemmas.Bool.{iff_false}
use Rattle.arena_list.specs.Versions.{KeyVersion, IsAt}
use Rattle.arena_list.specs.Nodes.{no_node}
use Rattle.arena_list.proofs.Levels.{version_read}
use Rattle.arena_list.proofs.Arenas.{LandsAt, lands_at, lands_on_held, landed}
use Rattle.arena_list.proofs.Fronts.{told_read}
use Rattle.arena_list.proofs.search.find.Goals as goal
use Rattle.arena_list.proofs.search.find.Goals.{then-place-eq0-via-then-place-eq0, then-place-eq0-via-else-place-eq0+then-not-is_at}

pub bounds-nodes-lasts : goal.bounds-nodes-lasts
bounds-nodes-lasts c =
    let sought = c.args.sought.now in
    (lands_at c.args.nodes.now sought.key.now sought.number (slice_index c.args.lasts.now 0) no_node c.requires.linked c.requires.head
    c.requires.cut).within

pub bounds-nodes-place : goal.bounds-nodes-place
bounds-nodes-place c =
    let sought = c.args.sought.now in
    (lands_at c.args.nodes.now sought.key.now sought.number (slice_index c.args.lasts.now 0) c.index-nodes-lasts.result c.requires.linked c.requires.head
    c.requires.cut).below c.if-place-eq0.false

pub is_at-requires : goal.is_at-requires
is_at-requires c =
    let sought = c.args.sought.now in
    let nodes = c.args.nodes.now in
    let last = slice_index c.args.lasts.now 0 in
    let cut = c.requires.cut in
    let lands : LandsAt nodes last c.index-nodes-lasts.result =
    lands_at nodes sought.key.now sought.number last c.index-nodes-lasts.result c.requires.linked c.requires.head cut in
    let place = slice_index (slice_index_or nodes last c.index-nodes-lasts.result).links 0 in
    told_read nodes sought place c.index-nodes-place.result c.requires.told
    (landed nodes c.requires.linked sought.key.now sought.number last cut place lands.is c.if-place-eq0.false) (lands.below c.if-place-eq0.false)
    c.index-nodes-place.is

pub returns-then-place-eq0-clause-none : goal.returns-then-place-eq0-clause-none
returns-then-place-eq0-clause-none c holds =
    let sought = c.args.sought.now in
    let nodes = c.args.nodes.now in
    let last = slice_index c.args.lasts.now 0 in
    let cut = c.requires.cut in
    let lands : LandsAt nodes last c.index-nodes-lasts.result =
    lands_at nodes sought.key.now sought.number last c.index-nodes-lasts.result c.requires.linked c.requires.head cut in
    let place = slice_index (slice_index_or nodes last c.index-nodes-lasts.result).links 0 in
    let held = lands_on_held nodes c.requires.linked sought.key.now sought.number last cut place lands.is holds in
    elim c.then-place-eq0.branch [
      | then-place-eq0-via-then-place-eq0 w ↦ held.0 w.if-place-eq0.true
      | then-place-eq0-via-else-place-eq0+then-not-is_at w ↦ iff_false w.is_at.ensures w.if-not-is_at.true
          (subst (λ (v : KeyVersion). IsAt v sought.key.now sought.number)
          (sym (version_read nodes place w.index-nodes-place.result w.index-nodes-place.is (lands.below w.if-place-eq0.false))) held.1)
    ]

pub returns-clause-held : goal.returns-clause-held
returns-clause-held c =
    let sought = c.args.sought.now in
    let nodes = c.args.nodes.now in
    let last = slice_index c.args.lasts.now 0 in
    let cut = c.requires.cut in
    let lands : LandsAt nodes last c.index-nodes-lasts.result =
    lands_at nodes sought.key.now sought.number last c.index-nodes-lasts.result c.requires.linked c.requires.head cut in
    landed nodes c.requires.linked sought.key.now sought.number last cut _ lands.is c.if-place-eq0.false

pub returns-clause-at : goal.returns-clause-at
returns-clause-at c =
    let sought = c.args.sought.now in
    let nodes = c.args.nodes.now in
    let last = slice_index c.args.lasts.now 0 in
    let lands : LandsAt nodes last c.index-nodes-lasts.result =
    lands_at nodes sought.key.now sought.number last c.index-nodes-lasts.result c.requires.linked c.requires.head c.requires.cut in
    let place = slice_index (slice_index_or nodes last c.index-nodes-lasts.result).links 0 in
    subst (λ (v : KeyVersion). IsAt v sought.key.now sought.number)
    (version_read nodes place c.index-nodes-place.result c.index-nodes-place.is (lands.below c.if-place-eq0.false))
    (c.is_at.ensures.0 c.if-not-is_at.false)

pub returns-clause-next : goal.returns-clause-next
returns-clause-next c =
    let sought = c.args.sought.now in
    let nodes = c.args.nodes.now in
    let last = slice_index c.args.lasts.now 0 in
    (lands_at nodes sought.key.now sought.number last c.index-nodes-lasts.result c.requires.linked c.requires.head c.requires.cut).is
