-- What stands after a flush: the one table, which answers what the store did, no segment, and no lesser table.
use Rattle.std.proofs.Common.{◌≡◌, ◌≢◌, inl, inr, ℕ, ◌+◌, ◌<◌, ◌≤◌, true, List, [], ◌++◌, length, Contains, Option, Some, None, sym, subst, ap, ◌∙◌, refl, arith}
use native.Mathlib.Decide.{dec_le}
use Rattle.batch_repr.specs.declared.batch.Batch.{Batch}
use Rattle.block_record.proofs.Laws.{readable}
use Rattle.disk_face.specs.declared.Side.{Side}
use Rattle.disk_face.specs.declared.SegName.{SegName}
use Rattle.disk_face.specs.declared.TableListed.{TableListed}
use Rattle.disk_face.specs.declared.FilePlace.TheVariants.{Segment, Table}
use Rattle.disk_face.specs.View.{Place, segment, table, File, Files, Dirs}
use Rattle.disk_face.specs.Image.{log_number, as_read, dirs_as_read}
use Rattle.disk_face.specs.Listing.{IsTableNumber, IsTableListing}
use Rattle.disk_face.specs.Tables.{IsBeingRemoved}
use Rattle.disk_face.proofs.Laws.{same_number}
use Rattle.table_text.specs.Tables as tables
use Rattle.table_text.specs.Tables.{batches_of, table_text}
use Rattle.table_text.proofs.Laws.{written_is_read}
use Rattle.wal_recovery.specs.declared.listing.Sides.{Sides}
use Rattle.wal_recovery.specs.declared.reports.Mode.TheVariants.{Strict}
use Rattle.wal_recovery.specs.Listing.{StandsIn, place_in, name_in}
use Rattle.wal_recovery.specs.Sides.{AreListings}
use Rattle.wal_recovery.proofs.Laws.{listed_stands, stands_listed}
use Rattle.flush_table.specs.Stores.{HasWholeTable, UsesTable, Used, IsUsed, StoreOf, wal_from, next_in}
use Rattle.flush_table.specs.Flushing.{answer_of, AnswersAs, HasNoSegments, IsGreatestWal, IsCoverOf}
use Rattle.flush_table.specs.Removing.{covered_places, IsCoveredBy, IsThinned}
use Rattle.flush_table.specs.Settling.{IsGreatestOf, HasTableOf}
use Rattle.flush_table.proofs.Listed.{both_on, on_both, place_of}
use Rattle.flush_table.proofs.OnlyTable.{StandUpTo, only_batches, only_next, only_table}
use Rattle.flush_table.proofs.SameAnswers.{table_answers}
use Rattle.flush_table.proofs.Whole.{table_read}

-- ---- removals

removed_read : (p : Place) (a b : Option File) (bytes : List ℕ) → IsBeingRemoved a b → as_read p b ≡ Some bytes → as_read p a ≡ Some bytes
removed_read p a None bytes gone is = absurd (let no : ◌≡◌ {A = Option (List ℕ)} None (Some bytes) = is in cc)
removed_read p None (Some g) bytes gone is = absurd gone
removed_read p (Some f) (Some g) bytes gone is = sym (leaves p) ∙ ap (as_read p) (sym (ap Some gone)) ∙ is
  where
    leaves : (q : Place) → as_read q (Some (record f { leaving = true })) ≡ as_read q (Some f)
    leaves (Segment side name) = refl
    leaves (Table upto) = refl

-- what still reads after removals read so before
read_thinned : (P : Place → Type 0) (old now : Files) → IsThinned P old now → (p : Place) (bytes : List ℕ) → dirs_as_read now p ≡ Some bytes
    → dirs_as_read old p ≡ Some bytes
read_thinned P old now thinned p bytes is = elim (thinned p) [
  | inl e ↦ ap (as_read p) (sym e) ∙ is
  | inr (at, gone) ↦ removed_read p (old p) (now p) bytes gone is
]

-- ---- the store that was read

module _ (before : Files) (sides : Sides) (listings : AreListings before sides) (used : Option Used) (batches : List Batch)
    (store : StoreOf Strict (dirs_as_read before) used batches) (wal : ℕ) (named : IsTableNumber wal)
    (last : IsGreatestOf (sides.primary ++ sides.secondary) wal) where
  up_to : StandUpTo wal (dirs_as_read before)
  up_to number stored stands =
      let l = stands_listed before sides listings number stored stands in
      omega (arith, last.greatest l.0 (on_both sides stored.side l.0 l.2), ap (λ (n : SegName). n.wal) l.1)

  pub greatest_wal : IsGreatestWal (dirs_as_read before) wal
  greatest_wal =
      let on = both_on sides last.item last.listed in
      let s = listed_stands before sides listings on.0 last.item on.1 in
      record { stored = s.0; stands = subst (λ (n : ℕ). StandsIn (dirs_as_read before) n s.0) last.wal_is s.1; greatest = up_to }

  -- what stands once the table does that covers the WAL
  pub record IsCovering (upto : ℕ) (held : tables.Table) (mid : Files) : Type 0 where
    pub uses : UsesTable (dirs_as_read mid) upto held
    pub segments : (side : Side) (name : SegName) → dirs_as_read mid (segment side name) ≡ dirs_as_read before (segment side name)
    pub lesser : (number : ℕ) → number < upto → dirs_as_read mid (table number) ≡ dirs_as_read before (table number)
    pub answers : (key : List ℕ) → answer_of (batches_of held) key ≡ answer_of batches key
    pub next_is : held.next ≡ next_in used batches
    pub covers : IsCoverOf used wal upto

  -- ---- where it was put

  not_above : (u : Option Used) → IsUsed (dirs_as_read before) u → (other : ℕ) → HasWholeTable (dirs_as_read before) other → other + 1 ≤ wal_from u
  not_above None none other full = absurd (none other full)
  not_above (Some u) is other full = omega (arith, is.greatest other full)

  covers_above : (u : Option Used) → wal_from u ≤ wal → IsCoverOf u wal wal
  covers_above None low = refl
  covers_above (Some u) low = inl (omega (arith, low), refl)

  module _ (old : Files) (same : dirs_as_read old ≡ dirs_as_read before) where
    pub put_covers : (next : ℕ) → next_in used batches ≡ next → wal_from used ≤ wal → (mid : Files) (t : HasTableOf wal next batches old mid)
        → IsCovering wal t.held mid
    put_covers next next_is above mid t = record {
      uses = record {
        named = named;
        bytes = table_text wal t.held;
        there = ap (as_read (table wal)) t.stands;
        reads = let r = readable (table_text wal t.held) (log_number wal) in written_is_read wal t.held r.read t.of.is r.reads;
        greatest = λ other full. elim (same_number other wal) [
          | inl e ↦ omega (arith, e)
          | inr not ↦ omega (arith, not_above used store.is_used other (was_whole other not full), above)
        ];
      };
      segments = λ side name. others (segment side name) (λ e. cc);
      lesser = λ number below. others (table number) (λ e. omega (arith, below, table_number number wal e));
      answers = table_answers next batches t.held t.of;
      next_is = t.of.next_is ∙ sym next_is;
      covers = covers_above used above;
    }
      where
        others : (p : Place) → p ≢ table wal → dirs_as_read mid p ≡ dirs_as_read before p
        others p other = ap (as_read p) (t.others p other) ∙ ap (λ (d : Dirs). d p) same

        table_number : (a b : ℕ) → table a ≡ table b → a ≡ b
        table_number a b e = cc

        was_whole : (other : ℕ) → other ≢ wal → HasWholeTable (dirs_as_read mid) other → HasWholeTable (dirs_as_read before) other
        was_whole other not (number, (bytes, there, full)) =
            (number, (bytes, sym (others (table other) (λ e. not (table_number other wal e))) ∙ there, full))

    -- ---- where it was seen

    pub seen_covers : (u : Used) → used ≡ Some u → wal ≤ u.upto → IsCovering u.upto u.table old
    seen_covers u is low =
        let s : StoreOf Strict (dirs_as_read before) (Some u) batches = subst (λ (o : Option Used). StoreOf Strict (dirs_as_read before) o batches) is store in
        let up : StandUpTo u.upto (dirs_as_read before) = λ number stored stands. omega (arith, up_to number stored stands, low) in
        let own : batches ≡ batches_of u.table = only_batches (dirs_as_read before) u.upto u.table s.is_used up batches s in
        record {
          uses = subst (λ (d : Dirs). UsesTable d u.upto u.table) (sym same) s.is_used;
          segments = λ side name. ap (λ (d : Dirs). d (segment side name)) same;
          lesser = λ number below. ap (λ (d : Dirs). d (table number)) same;
          answers = λ key. ap (λ (l : List Batch). answer_of l key) (sym own);
          next_is = sym (only_next (dirs_as_read before) u.upto u.table s.is_used up) ∙ ap (next_in (Some u)) (sym own)
              ∙ ap (λ (o : Option Used). next_in o batches) (sym is);
          covers = subst (λ (o : Option Used). IsCoverOf o wal u.upto) (sym is) (inr (low, refl));
        }

  -- ---- where what it covers was removed

  module _ (listed : List TableListed) (listing : IsTableListing before listed) (upto : ℕ) (held : tables.Table) (mid : Files)
      (is : IsCovering upto held mid) (new : Files) (thinned : IsThinned (IsCoveredBy upto) mid new)
      (segments_gone : (p : Place) → Contains (covered_places sides []) p → new p ≡ None)
      (tables_gone : (item : TableListed) → Contains listed item → item.upto < upto → new (table item.upto) ≡ None) where
    stays : new (table upto) ≡ mid (table upto)
    stays = elim (thinned (table upto)) [ inl e ↦ e | inr (below, gone) ↦ absurd (omega (arith, below)) ]

    pub none_left : HasNoSegments (dirs_as_read new)
    none_left number stored (number_is, here) =
        let p : Place = place_in number stored.side stored.index in
        let there : StandsIn (dirs_as_read before) number stored =
        (number_is, sym (is.segments stored.side (name_in number stored.index)) ∙ read_thinned (IsCoveredBy upto) mid new thinned p stored.content here) in
        let l = stands_listed before sides listings number stored there in
        let gone : new (segment stored.side l.0.name) ≡ None =
        segments_gone (segment stored.side l.0.name) (place_of sides [] stored.side l.0 l.2) in
        let none : ◌≡◌ {A = Option (List ℕ)} None (Some stored.content) =
        sym (ap (as_read p) (ap (λ (n : SegName). new (segment stored.side n)) (sym l.1) ∙ gone)) ∙ here in
        cc

    pub uses_now : UsesTable (dirs_as_read new) upto held
    uses_now = record {
      named = is.uses.named;
      bytes = is.uses.bytes;
      there = ap (as_read (table upto)) stays ∙ is.uses.there;
      reads = is.uses.reads;
      greatest = λ other full. is.uses.greatest other (full.0, (full.1.0, read_thinned (IsCoveredBy upto) mid new thinned (table other) full.1.0 full.1.1, full.1.2));
    }

    pub answers_now : AnswersAs batches (next_in used batches) (dirs_as_read new)
    answers_now =
        let up : StandUpTo upto (dirs_as_read new) = λ number stored stands. absurd (none_left number stored stands) in
        record {
          used = Some (record { upto = upto; table = held });
          own = batches_of held;
          store = only_table (dirs_as_read new) upto held uses_now up;
          next_is = only_next (dirs_as_read new) upto held uses_now up ∙ is.next_is;
          same = is.answers;
        }

    pub no_lesser : (number : ℕ) (bytes : List ℕ) → IsTableNumber number → dirs_as_read new (table number) ≡ Some bytes → upto ≤ number
    no_lesser number bytes number_is here = elim (dec_le upto number) [
      | yes le ↦ le
      | no above ↦
          let there : dirs_as_read before (table number) ≡ Some bytes =
          sym (is.lesser number (omega (arith, above))) ∙ read_thinned (IsCoveredBy upto) mid new thinned (table number) bytes here in
          let f = table_read number (before (table number)) bytes there in
          let gone = tables_gone (record { upto = number; len = length f.0.reads })
          ((listing (record { upto = number; len = length f.0.reads })).1 (number_is, (f.0, f.1, refl))) (omega (arith, above)) in
          let none : ◌≡◌ {A = Option (List ℕ)} None (Some bytes) = sym (ap (as_read (table number)) gone) ∙ here in
          absurd cc
    ]
