-- What sessions have seen once they have met (docs/formats/ring.md, "Sessions beside one another").
use Rattle.std.specs.Prelude.{◌≡◌, ℕ, ◌+◌, ◌<◌, ◌≤◌, List, length, Option, None, Some, slice_get, slice_index_or}
use Rattle.wal_base.specs.Prefixes.{IsPrefixOf}
use Rattle.failover_writer.specs.declared.fault.DeadMark.{DeadMark}
use Rattle.commit_pipeline.specs.declared.standing.Standing.{Standing}
use Rattle.commit_pipeline.specs.Standings.{KnowsDeath, SeesOn}

-- The session of s has seen all that the one of o has seen.
pub record HasSeenAll (o s : Standing) : Type 0 where
  pub seen : IsPrefixOf o.seen s.seen
  pub acked : o.acked ≤ s.acked

-- The own batches and the answers of a session are the same, and it has seen no less, and been told of no fewer deaths.
pub record StaysOn (s s' : Standing) : Type 0 where
  pub goes_on : SeesOn s s'
  pub own : s'.own ≡ s.own
  pub dead : s'.dead ≡ s.dead

-- So it is of each of them.
pub record StayOn (ss ss' : List Standing) : Type 0 where
  pub all : length ss' ≡ length ss
  pub each : (i : ℕ) (s s' : Standing) → slice_get ss i ≡ Some s → slice_get ss' i ≡ Some s' → StaysOn s s'

-- Each has seen all that any of them had seen, and knows of a death where any of them knew.
pub record HaveMet (ss ss' : List Standing) : Type 0 where
  pub stay : StayOn ss ss'
  pub each_other : (i j : ℕ) (o s' : Standing) → slice_get ss i ≡ Some o → slice_get ss' j ≡ Some s' → HasSeenAll o s'
  pub deaths : (i j : ℕ) (o s' : Standing) → slice_get ss i ≡ Some o → slice_get ss' j ≡ Some s' → KnowsDeath o → KnowsDeath s'

-- ---- inside

-- Each of them is as it was.
pub record AreAsBefore (ss ss' : List Standing) : Type 0 where
  pub all : length ss' ≡ length ss
  pub each : (i : ℕ) (d : Standing) → i < length ss → slice_index_or ss' i d ≡ slice_index_or ss i d

-- Each has seen all that any of them had seen.
pub record ShareSeen (ss ss' : List Standing) : Type 0 where
  pub stay : StayOn ss ss'
  pub each_other : (i j : ℕ) (o s' : Standing) → slice_get ss i ≡ Some o → slice_get ss' j ≡ Some s' → HasSeenAll o s'

-- so many deaths a meeting tells of, by the mark of a dead journal
abbrev pub deaths_heard : Option DeadMark → ℕ
deaths_heard None = 0
deaths_heard (Some mark) = 1

-- A session that knows of a death is one of a dead journal, of which it is told; all else of it is the same.
pub record HearsDeath (mark : Option DeadMark) (s s' : Standing) : Type 0 where
  pub lives : mark ≡ None → KnowsDeath s → ⊥
  pub is : s' ≡ record s { told = s.told + deaths_heard mark }

-- So it is of each of them.
pub record HearDeaths (mark : Option DeadMark) (ss ss' : List Standing) : Type 0 where
  pub all : length ss' ≡ length ss
  pub each : (i : ℕ) (s s' : Standing) → slice_get ss i ≡ Some s → slice_get ss' i ≡ Some s' → HearsDeath mark s s'

-- One session and the others are what they were, and have seen no less.
pub record StaysOnBeside (one : Standing) (others : List Standing) (one' : Standing) (others' : List Standing) : Type 0 where
  pub stays : StaysOn one one'
  pub stay : StayOn others others'

-- One session has met the others, one after another: it has seen all that they had seen, and they all that it had.
pub record MeetsEach (one : Standing) (others : List Standing) (one' : Standing) (others' : List Standing) : Type 0 where
  pub beside : StaysOnBeside one others one' others'
  pub hears : (i : ℕ) (o : Standing) → slice_get others i ≡ Some o → HasSeenAll o one'
  pub tells : (i : ℕ) (o' : Standing) → slice_get others' i ≡ Some o' → HasSeenAll one o'
