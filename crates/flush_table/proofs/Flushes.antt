-- A flush: what was read, the table that covers it, and what is removed.
use Rattle.std.proofs.Common.{◌≡◌, ◌≢◌, inl, inr, ℕ, ◌+◌, ◌<◌, ◌≤◌, Bool, true, false, List, [], ◌∷◌, ◌++◌, length, Contains, Option, Some, None, IsSome, IsTrue, Ok, sym, subst, ap, ◌∙◌, refl, arith}
use Rattle.wal_base.proofs.Laws.{none_within}
use Rattle.batch_repr.specs.declared.batch.Batch.{Batch}
use Rattle.batch_repr.specs.Batches.{end_after}
use Rattle.disk_face.specs.declared.Side.{Side}
use Rattle.disk_face.specs.declared.Side.TheVariants.{Primary, Secondary}
use Rattle.disk_face.specs.declared.SegName.{SegName}
use Rattle.disk_face.specs.declared.Listed.{Listed}
use Rattle.disk_face.specs.declared.TableListed.{TableListed}
use Rattle.disk_face.specs.declared.FilePlace.TheVariants.{Segment, Table}
use Rattle.disk_face.specs.View.{Place, segment, table, File, Files, Dirs, DiskView, files}
use Rattle.disk_face.specs.Image.{IsRested, dirs_as_read}
use Rattle.disk_face.specs.Listing.{IsSegmentName, IsTableNumber, AreSegmentNames}
use Rattle.disk_face.proofs.Laws.{makes_none, moments_joined, same_files}
use Rattle.disk_face.specs.Calls.{GoesOn}
use Rattle.table_text.specs.Tables as tables
use Rattle.wal_recovery.specs.declared.listing.Sides.{Sides}
use Rattle.wal_recovery.specs.declared.reports.Mode.TheVariants.{Strict}
use Rattle.wal_recovery.specs.Resting.{AreSegmentsStable, IsAsOrSynced, OnlySynced}
use Rattle.wal_recovery.specs.Rows.{files_from}
use Rattle.wal_recovery.specs.Sides.{AreSideNames}
use Rattle.wal_recovery.proofs.Laws.{IsListedOn, read_synced, reads_sent, rested_synced, stands_listed}
use Rattle.flush_table.specs.declared.reports.StoreRead.{StoreRead}
use Rattle.flush_table.specs.declared.reports.TableSeen.{TableSeen}
use Rattle.flush_table.specs.declared.flushing.Flushed.{Flushed}
use Rattle.flush_table.specs.Asked.{AsksOfStore}
use Rattle.flush_table.specs.Stores.{Used, UsesTable, StoreOf, TellsUsed, next_in, wal_after}
use Rattle.flush_table.specs.Promises.{IsStoreRead, HasNext, AreStoreNames, AreStoreListings, sides_of}
use Rattle.flush_table.specs.Flushing.{ImagesAnswerAs, HasNoSegments, IsCoverOf, IsFlushed, FlushesInTurn}
use Rattle.flush_table.specs.Putting.{HasPut}
use Rattle.flush_table.specs.Removing.{covered_places, AreGone, AreThere, IsAmong, IsCoveredBy, IsThinned, OnlyRemoves, ThinsThroughout}
use Rattle.flush_table.specs.Settling.{AreUpTo, IsGreatestOf, IsLastWalOf, IsAboveSeen, HasSettled, HasTableOf, Covers, IsFlushing, SettlesByCalls, SettlesThroughout, HasFlushed, FlushesByCalls, FlushesThroughout}
use Rattle.flush_table.proofs.AfterFlush.{IsCovering, greatest_wal, put_covers, seen_covers, none_left, uses_now, answers_now, no_lesser}
use Rattle.flush_table.proofs.Listed.{are_covered, both_on, listed_there, one_of, place_of, table_place_of}
use Rattle.flush_table.proofs.SameAnswers.{answers_once, flushing_answers, other_answers}
use Rattle.flush_table.proofs.Starting.{number_used, wal_used}
use Rattle.flush_table.proofs.Thinned.{removes_none, removes_wider, thinned_wider}
use Rattle.flush_table.proofs.Tools.{some_is}

-- ---- the table is settled

module _ (tells : Bool) (seen : Option TableSeen) (wal next : ℕ) (batches : List Batch) (old new : DiskView) (used : TableSeen)
    (settled : HasSettled tells seen wal next batches old new used) where
  pub settled_up : wal ≤ used.upto
  settled_up = elim settled [ inl (above, put) ↦ omega (arith, put.upto_is) | inr (covers, same) ↦ covers.1 ]

  -- no other file changed
  pub settled_same : IsTrue tells → (p : Place) → p ≢ table used.upto → files new p ≡ files old p
  settled_same told p other = elim settled [
    | inl (above, put) ↦ put.others told p (λ e. other (e ∙ ap (λ (n : ℕ). table n) (sym put.upto_is)))
    | inr (covers, same) ↦ ap (λ (fs : Files). fs p) (same_files old new same)
  ]

  pub settled_covers : IsTrue tells → Covers seen wal next batches used.upto (files old) (files new)
  settled_covers told = elim settled [
    | inl (above, put) ↦ inl (above, put.upto_is, record { held = put.held; of = put.of; stands = put.stands told; others = put.others told })
    | inr (covers, same) ↦ inr (used, covers, refl, same_files old new same)
  ]

-- what a number covers is not its own table
covered_other : (upto : ℕ) (p : Place) → IsCoveredBy upto p → p ≢ table upto
covered_other upto (Segment side name) low e = cc
covered_other upto (Table other) low e = let same : other ≡ upto = cc in omega (arith, low, same)

-- places of fewer tables are among those of more
pub more_places : (sides : Sides) (few many : List TableListed) → ((item : TableListed) → Contains few item → Contains many item) → (p : Place)
    → Contains (covered_places sides few) p → Contains (covered_places sides many) p
more_places sides few many within p at = elim (one_of sides few p at) [
  | inl (side, item, on, is) ↦ subst (λ (q : Place). Contains (covered_places sides many) q) (sym is) (place_of sides many side item on)
  | inr (item, here, is) ↦ subst (λ (q : Place). Contains (covered_places sides many) q) (sym is) (table_place_of sides many item (within item here))
]

-- the files that are to be removed are still there
pub still_there : (tells : Bool) (seen : Option TableSeen) (wal next : ℕ) (batches : List Batch) (old new : DiskView) (used : TableSeen)
    → HasSettled tells seen wal next batches old new used → IsTrue tells → (p : Place) → IsCoveredBy used.upto p → IsSome (files old p) → IsSome (files new p)
still_there tells seen wal next batches old new used settled told p low there =
    subst IsSome (sym (settled_same tells seen wal next batches old new used settled told p (covered_other used.upto p low))) there

-- ---- the calls

module _ (old mid : DiskView) (asks : AsksOfStore old mid) where
  pub only_asked : FlushesInTurn old mid
  only_asked = record { asked = mid; asks = asks; upto = 0; next = 0; batches = []; later = inl (inl (makes_none mid)) }

  pub flush_calls : (found : StoreRead) (wal : ℕ) (new : DiskView) → FlushesByCalls found wal mid new → FlushesInTurn old new
  flush_calls found wal new (inl (fault, inr (below, none))) =
      record { asked = mid; asks = asks; upto = wal; next = found.next; batches = found.batches; later = inl (inl none) }
  flush_calls found wal new (inl (fault, inl (above, inl none))) =
      record { asked = mid; asks = asks; upto = wal; next = found.next; batches = found.batches; later = inl (inl none) }
  flush_calls found wal new (inl (fault, inl (above, inr (text, keys, true, is, makes)))) =
      record {
        asked = mid;
        asks = asks;
        upto = wal;
        next = found.next;
        batches = found.batches;
        later = inr (new, inr (text, keys, is, makes), removes_none (IsCoveredBy wal) new);
      }
  flush_calls found wal new (inl (fault, inl (above, inr (text, keys, false, is, makes)))) =
      record { asked = mid; asks = asks; upto = wal; next = found.next; batches = found.batches; later = inl (inr (text, keys, is, makes)) }
  flush_calls found wal new (inr (used, put, inl (above, (text, keys, is, makes, number)), removes)) =
      record {
        asked = mid;
        asks = asks;
        upto = wal;
        next = found.next;
        batches = found.batches;
        later = inr (put, inr (text, keys, is, makes), subst (λ (n : ℕ). OnlyRemoves (IsCoveredBy n) put new) number removes);
      }
  flush_calls found wal new (inr (used, put, inr (below, none), removes)) =
      record { asked = mid; asks = asks; upto = used.upto; next = found.next; batches = found.batches; later = inr (put, inl none, removes) }

-- ---- the listings

empty_parts : {X : Type 0} (xs ys : List X) → xs ++ ys ≡ [] → (xs ≡ []) × (ys ≡ [])
empty_parts [] ys e = (refl, e)
empty_parts (x ∷ xs) ys e = absurd (let clash : x ∷ (xs ++ ys) ≡ [] = e in cc)

-- where there is no last segment both sides are empty
pub no_last : (ones others : List Listed) (last : Option ℕ) → IsLastWalOf (ones ++ others) last → ((wal : ℕ) → last ≡ Some wal → ⊥)
    → (ones ≡ []) × (others ≡ [])
no_last ones others None is none = empty_parts ones others is
no_last ones others (Some wal) is none = absurd (none wal refl)

pub none_stands : (found : StoreRead) (tells : Bool) (old : DiskView) → AreStoreListings tells old found → IsTrue tells → found.primary ≡ []
    → found.secondary ≡ [] → HasNoSegments (dirs_as_read (files old))
none_stands found tells old listings told ones others number stored stands =
    let l = stands_listed (files old) (sides_of found) (listings.sides told) number stored stands in
    on stored.side l.0 l.2
  where
    on : (side : Side) (item : Listed) → IsListedOn (sides_of found) side item → ⊥
    on Primary item at = none_within item (subst (λ (l : List Listed). Contains l item) ones at)
    on Secondary item at = none_within item (subst (λ (l : List Listed). Contains l item) others at)

-- the greatest WAL of names is a number that a table may have
pub last_number : (sides : Sides) → AreSideNames sides → (wal : ℕ) → IsGreatestOf (sides.primary ++ sides.secondary) wal → IsTableNumber wal
last_number sides names wal last =
    let on = both_on sides last.item last.listed in
    omega (arith, named on.0 last.item on.1, last.wal_is)
  where
    of_all : (l : List Listed) (item : Listed) → AreSegmentNames l → Contains l item → IsSegmentName item.name
    of_all l item all (k, lt, is) = subst (λ (x : Listed). IsSegmentName x.name) is (all k item lt)

    named : (side : Side) (item : Listed) → IsListedOn sides side item → IsTableNumber item.name.wal
    named Primary item at = (of_all sides.primary item names.ones_named at).0
    named Secondary item at = (of_all sides.secondary item names.others_named at).0

synced_some : (o n : Option File) → IsAsOrSynced o n → IsSome o → IsSome n
synced_some o n (inl e) there = subst IsSome (sym e) there
synced_some o n (inr (f, was, is)) there = subst IsSome (sym is) refl

-- what is listed is still there after syncs
pub listed_synced : (tells : Bool) (old mid : DiskView) (found : StoreRead) → AreStoreListings tells old found → IsTrue tells
    → OnlySynced (files old) (files mid) → (p : Place) → Contains (covered_places (sides_of found) found.tables) p → IsSome (files mid p)
listed_synced tells old mid found listings told only p at =
    synced_some (files old p) (files mid p) (only p)
    (listed_there (files old) (sides_of found) found.tables (listings.sides told) (listings.tables told) p at)

-- ---- what was read

module _ (tells : Bool) (told : IsTrue tells) (old mid : DiskView) (found : StoreRead) (recovered : IsStoreRead tells Strict old found)
    (next_is : HasNext found) (listings : AreStoreListings tells old found) (only : OnlySynced (files old) (files mid)) (wal : ℕ)
    (number : IsTableNumber wal) (last : IsGreatestOf (found.primary ++ found.secondary) wal) where
  abbrev sides : Sides
  sides = sides_of found

  abbrev used : Option Used
  used = (recovered told).0

  store : StoreOf Strict (dirs_as_read (files old)) used found.batches
  store = (recovered told).1

  tells_used : TellsUsed used found.table
  tells_used = (recovered told).2

  same_read : dirs_as_read (files mid) ≡ dirs_as_read (files old)
  same_read = read_synced (files old) (files mid) only

  next_here : next_in used found.batches ≡ found.next
  next_here = ap (λ (n : ℕ). end_after n found.batches) (sym (number_used used found.table tells_used)) ∙ sym next_is

  -- each image answers what it did
  pub each_answers : IsRested (files old) → AreSegmentsStable (files_from (wal_after found.table) (files mid))
      → ImagesAnswerAs found.batches found.next (files mid) → (batches : List Batch) (next : ℕ) → ImagesAnswerAs batches next (files old)
      → (now : Files) → IsFlushing found.table wal found.next found.batches (files mid) now → ImagesAnswerAs batches next now
  each_answers rested stable all batches next were now flushing =
      let once = answers_once (files old) rested used found.batches batches next store were in
      other_answers found.batches batches found.next next now once.1 (sym next_here ∙ once.0)
      (flushing_answers (files mid) rests used found.table tells_used found.batches found.next
      (subst (λ (d : Dirs). StoreOf Strict d used found.batches) (sym same_read) store) next_is stable wal number up all now flushing)
    where
      rests : IsRested (files mid)
      rests = rested_synced (files old) (files mid) rested only

      up : (side : Side) (name : SegName) (f : File) → IsSegmentName name → files mid (segment side name) ≡ Some f → name.wal ≤ wal
      up side name f named is =
          (greatest_wal (files old) sides (listings.sides told) used found.batches store wal number last).greatest name.wal
          (record { side = side; index = name.index; content = f.sent })
          (named, ap (λ (d : Dirs). d (segment side name)) (sym same_read) ∙ reads_sent (segment side name) (files mid (segment side name)) f is (rests (segment side name) f is))

  module _ (names : AreStoreNames found) (new : DiskView) (flushed : Flushed) (h : HasFlushed tells found wal mid new flushed) where
    finish : (upto : ℕ) (held : tables.Table)
        → IsCovering (files old) sides (listings.sides told) used found.batches store wal number last upto held (files h.mid)
        → h.used.upto ≡ upto → h.used.keys ≡ length held.live → h.used.next ≡ held.next → IsFlushed old new flushed
    finish upto held is upto_is keys_is next_same =
        let thinned : IsThinned (IsCoveredBy upto) (files h.mid) (files new) =
        subst (λ (n : ℕ). IsThinned (IsCoveredBy n) (files h.mid) (files new)) upto_is (h.thinned told) in
        let gone : (item : TableListed) → Contains found.tables item → item.upto < upto → files new (table item.upto) ≡ None =
        λ item at low. h.tables told item at (omega (arith, low, upto_is)) in
        let number_is : flushed.upto ≡ upto = h.upto_is ∙ upto_is in
        record {
          used = used;
          batches = found.batches;
          store = store;
          wal = wal;
          wal_is = greatest_wal (files old) sides (listings.sides told) used found.batches store wal number last;
          covers = subst (λ (n : ℕ). IsCoverOf used wal n) (sym number_is) is.covers;
          held = held;
          uses = subst (λ (n : ℕ). UsesTable (dirs_as_read (files new)) n held) (sym number_is)
              (uses_now (files old) sides (listings.sides told) used found.batches store wal number last found.tables (listings.tables told) upto held (files h.mid) is
              (files new) thinned (h.segments told) gone);
          keys_is = h.keys_is ∙ keys_is;
          next_is = h.next_is ∙ next_same;
          same = answers_now (files old) sides (listings.sides told) used found.batches store wal number last found.tables (listings.tables told) upto held (files h.mid) is
              (files new) thinned (h.segments told) gone;
          none = none_left (files old) sides (listings.sides told) used found.batches store wal number last found.tables (listings.tables told) upto held (files h.mid) is
              (files new) thinned (h.segments told) gone;
          least = λ n bytes named there. omega (
            arith,
            number_is,
            no_lesser (files old) sides (listings.sides told) used found.batches store wal number last found.tables
                (listings.tables told) upto held (files h.mid) is (files new) thinned (h.segments told) gone n bytes named there,
          );
          dropped = record {
            ones = found.primary;
            others = found.secondary;
            ones_ascend = names.sides.ones_ascend;
            others_ascend = names.sides.others_ascend;
            primary = (listings.sides told).primary;
            secondary = (listings.sides told).secondary;
            count_is = h.dropped_is;
          };
        }

    put_flushed : IsAboveSeen found.table wal → HasPut tells wal found.next found.batches mid h.mid h.used → IsFlushed old new flushed
    put_flushed above put =
        let t : HasTableOf wal found.next found.batches (files mid) (files h.mid) =
        record { held = put.held; of = put.of; stands = put.stands told; others = put.others told } in
        finish wal put.held
        (put_covers (files old) sides (listings.sides told) used found.batches store wal number last (files mid) same_read found.next next_here
        (omega (arith, above, wal_used used found.table tells_used)) (files h.mid) t)
        put.upto_is put.keys_is (put.next_is ∙ sym put.of.next_is)

    seen_flushed : (u : Option Used) → u ≡ used → (s : Option TableSeen) → TellsUsed u s → s ≡ Some h.used → wal ≤ h.used.upto
        → files h.mid ≡ files mid → IsFlushed old new flushed
    seen_flushed None own None of is low same = let clash : ◌≡◌ {A = Option TableSeen} None (Some h.used) = is in absurd cc
    seen_flushed None own (Some s) of is low same = absurd of
    seen_flushed (Some u) own None of is low same = absurd of
    seen_flushed (Some u) own (Some s) of is low same =
        let told_is : s ≡ h.used = some_is s h.used is in
        let upto_is : h.used.upto ≡ u.upto = ap (λ (t : TableSeen). t.upto) (sym told_is) ∙ of.0 in
        finish u.upto u.table
        (subst (IsCovering (files old) sides (listings.sides told) used found.batches store wal number last u.upto u.table) (sym same)
        (seen_covers (files old) sides (listings.sides told) used found.batches store wal number last (files mid) same_read u (sym own) (omega (arith, low, upto_is))))
        upto_is (ap (λ (t : TableSeen). t.keys) (sym told_is) ∙ of.1.keys_is) (ap (λ (t : TableSeen). t.next) (sym told_is) ∙ of.1.next_is)

    pub flushed_is : IsFlushed old new flushed
    flushed_is = elim h.settled [
      | inl (above, put) ↦ put_flushed above put
      | inr (covers, same) ↦ seen_flushed used refl found.table tells_used covers.0 covers.1 (same_files mid h.mid same)
    ]

-- ---- the table is settled, and then what it covers removed

module _ (tells : Bool) (found : StoreRead) (wal : ℕ) (greatest : AreUpTo wal (found.primary ++ found.secondary)) (few : List TableListed)
    (first mid : DiskView) (used : TableSeen) (settled : HasSettled tells found.table wal found.next found.batches first mid used)
    (within : (item : TableListed) → Contains few item → Contains found.tables item) (low : (item : TableListed) → Contains few item → item.upto < used.upto) where
  covered_here : (p : Place) → Contains (covered_places (sides_of found) few) p → IsCoveredBy used.upto p
  covered_here = are_covered (sides_of found) few wal used.upto greatest
      (settled_up tells found.table wal found.next found.batches first mid used settled) low

  pub there_still : AreThere tells (covered_places (sides_of found) found.tables) first → AreThere tells (covered_places (sides_of found) few) mid
  there_still there told p at =
      still_there tells found.table wal found.next found.batches first mid used settled told p (covered_here p at)
      (there told p (more_places (sides_of found) few found.tables within p at))

  module _ (new : DiskView) where
    pub read_calls : SettlesByCalls (Ok used) found.table wal found.next found.batches first mid
        → OnlyRemoves (IsAmong (covered_places (sides_of found) few)) mid new → FlushesByCalls found wal first new
    read_calls settles removes =
        inr (used, mid, settles, removes_wider (IsAmong (covered_places (sides_of found) few)) (IsCoveredBy used.upto) mid new covered_here removes)

    thinned_here : (k : ℕ) → IsThinned (IsAmong (covered_places (sides_of found) few)) (files mid) (new.history k)
        → IsThinned (IsCoveredBy used.upto) (files mid) (new.history k)
    thinned_here k = thinned_wider (IsAmong (covered_places (sides_of found) few)) (IsCoveredBy used.upto) (files mid) (new.history k) covered_here

    pub read_moments : GoesOn mid new → SettlesThroughout tells found.table wal found.next found.batches first mid
        → ThinsThroughout tells (covered_places (sides_of found) few) mid new → FlushesThroughout tells found wal first new
    read_moments goes settling thins told =
        moments_joined first.clock mid new (IsFlushing found.table wal found.next found.batches (files first))
        (λ k since until. inl (settling told k since until)) goes
        (λ k since until. inr (record {
          upto = used.upto;
          mid = files mid;
          covers = settled_covers tells found.table wal found.next found.batches first mid used settled told;
          thinned = thinned_here k (thins told k since until);
        }))

    pub read_flushed : GoesOn mid new → ThinsThroughout tells (covered_places (sides_of found) few) mid new
        → AreGone tells (covered_places (sides_of found) few) new
        → ((item : TableListed) → Contains found.tables item → item.upto < used.upto → Contains few item) → (count : ℕ)
        → count ≡ length found.primary + length found.secondary
        → HasFlushed tells found wal first new (record { keys = used.keys; next = used.next; upto = used.upto; dropped = count })
    read_flushed goes thins gone all count count_is = record {
      used = used;
      mid = mid;
      settled = settled;
      thinned = λ told. thinned_here new.clock (thins told new.clock goes.clock (omega arith));
      segments = λ told p at. gone told p (more_places (sides_of found) [] few (λ item none. absurd (none_within item none)) p at);
      tables = λ told item at lesser. gone told (table item.upto) (table_place_of (sides_of found) few item (all item at lesser));
      upto_is = refl;
      keys_is = refl;
      next_is = refl;
      dropped_is = count_is;
    }
