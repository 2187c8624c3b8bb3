-- One file after another is removed: those so far are gone, and the others stand.
use Rattle.std.proofs.Common.{◌≡◌, ◌≢◌, inl, inr, ℕ, suc, ◌+◌, ◌<◌, ◌≤◌, List, [], ◌∷◌, length, take, drop, get_or, Contains, AllPairs, None, sym, subst, ap, ◌∙◌, refl, arith, take_all, drop-cons}
use Rattle.std.specs.Prelude.{IsSome}
use Rattle.std.proofs.lemmas.List.{take_more, get_or-map, length-map, length-drop, get_or-drop, get_or_default, length-take, get_or-take}
use Rattle.std.proofs.lemmas.List.Elements.{Contains-push_cases, Contains-append_right}
use Rattle.disk_face.specs.declared.Side.{Side}
use Rattle.disk_face.specs.declared.Listed.{Listed}
use Rattle.disk_face.specs.declared.TableListed.{TableListed}
use Rattle.disk_face.specs.View.{Place, segment, table, DiskView, files, AtEachMoment}
use Rattle.disk_face.specs.Listing.{IsAscending, AreTablesAscending}
use Rattle.disk_face.specs.Calls.{GoesOn}
use Rattle.disk_face.specs.Tables.{Removes}
use Rattle.disk_face.proofs.Laws.{moments_from, not_before_itself}
use Rattle.wal_base.proofs.Laws.{none_within}
use Rattle.flush_table.specs.Removing.{segment_places, table_places, IsThinned, AreRemoved}
use Rattle.flush_table.proofs.Thinned.{thinned_none, removes_thins, thins_further}

-- ---- no place comes twice

abbrev AreDistinct : List Place → Type 0
AreDistinct = AllPairs (λ a b. a ≢ b)

pub segments_distinct : (side : Side) (names : List Listed) → IsAscending names → AreDistinct (segment_places side names)
segments_distinct side names up i j d before below e =
    let few : length (segment_places side names) ≡ length names = length-map names (λ (item : Listed). segment side item.name) in
    let one = get_or-map (λ (item : Listed). segment side item.name) names i first d (omega (arith, before, below, few)) in
    let other = get_or-map (λ (item : Listed). segment side item.name) names j first d (omega (arith, below, few)) in
    let same : segment side (get_or names i first).name ≡ segment side (get_or names j first).name = sym one ∙ e ∙ other in
    let name : (get_or names i first).name ≡ (get_or names j first).name = cc in
    not_before_itself (get_or names i first).name (get_or names j first).name (up i j first before (omega (arith, below, few))) name
  where
    first : Listed
    first = record { name = record { wal = 0; index = 0 }; len = 0 }

pub tables_distinct : (tables : List TableListed) → AreTablesAscending tables → AreDistinct (table_places tables)
tables_distinct tables up i j d before below e =
    let few : length (table_places tables) ≡ length tables = length-map tables (λ (item : TableListed). table item.upto) in
    let one = get_or-map (λ (item : TableListed). table item.upto) tables i first d (omega (arith, before, below, few)) in
    let other = get_or-map (λ (item : TableListed). table item.upto) tables j first d (omega (arith, below, few)) in
    let same : table (get_or tables i first).upto ≡ table (get_or tables j first).upto = sym one ∙ e ∙ other in
    let number : (get_or tables i first).upto ≡ (get_or tables j first).upto = cc in
    omega (arith, up i j first before (omega (arith, below, few)), number)
  where
    first : TableListed
    first = record { upto = 0; len = 0 }

-- the item at a place of a list stands at that place of the row
abbrev pub segment_at : Side → List Listed → ℕ → Place
segment_at side names i = segment side (get_or names i (record { name = record { wal = 0; index = 0 }; len = 0 })).name

abbrev pub table_at : List TableListed → ℕ → Place
table_at tables i = table (get_or tables i (record { upto = 0; len = 0 })).upto

pub segment_here : (side : Side) (names : List Listed) (i : ℕ) → i < length names
    → segment_at side names i ≡ get_or (segment_places side names) i (segment_at side names i)
segment_here side names i lt =
    sym (get_or-map (λ (item : Listed). segment side item.name) names i (record { name = record { wal = 0; index = 0 }; len = 0 }) (segment_at side names i) lt)

pub table_here : (tables : List TableListed) (i : ℕ) → i < length tables → table_at tables i ≡ get_or (table_places tables) i (table_at tables i)
table_here tables i lt = sym (get_or-map (λ (item : TableListed). table item.upto) tables i (record { upto = 0; len = 0 }) (table_at tables i) lt)

pub segments_many : (side : Side) (names : List Listed) → length (segment_places side names) ≡ length names
segments_many side names = length-map names (λ (item : Listed). segment side item.name)

pub tables_many : (tables : List TableListed) → length (table_places tables) ≡ length tables
tables_many tables = length-map tables (λ (item : TableListed). table item.upto)

-- ---- one file more

pub removed_none : (places : List Place) (v : DiskView) → AreRemoved places 0 v v
removed_none places v = record {
  moments = moments_from v (IsThinned (Contains places) (files v)) (thinned_none (Contains places) (files v));
  gone = λ p at. absurd (none_within p at);
  kept = λ p at. refl;
}

module _ (places : List Place) (distinct : AreDistinct places) (count : ℕ) (place : Place) (lt : count < length places)
    (here : place ≡ get_or places count place) (first mid new : DiskView) (went : GoesOn first mid) (goes : GoesOn mid new)
    (so_far : AreRemoved places count first mid) (removes : Removes place mid new) where
  among : Contains places place
  among = (count, lt, sym here)

  pub removed_part : AtEachMoment first.clock new (IsThinned (Contains places) (files first))
  removed_part = thins_further (Contains places) first mid new went goes so_far.moments (removes_thins (Contains places) place mid new among goes removes)

  -- the others are as they were
  stays : (p : Place) → p ≢ place → files new p ≡ files mid p
  stays p other = removes.others new.clock removes.later (omega arith) p other

  before_other : (p : Place) → Contains (take count places) p → p ≢ place
  before_other p (k, less, is) e =
      let low : k < count = omega (arith, less, length-take count places) in
      distinct k count p low lt (sym (get_or-take count places k p low) ∙ is ∙ e ∙ here ∙ get_or_default places count place p lt)

  after_other : (p : Place) → Contains (drop (count + 1) places) p → p ≢ place
  after_other p (k, less, is) e =
      let below : count + 1 + k < length places = omega (arith, less, length-drop (count + 1) places) in
      distinct count (count + 1 + k) p (omega arith) below
      (sym (get_or_default places count place p lt) ∙ sym here ∙ sym e ∙ sym is ∙ get_or-drop (count + 1) places k p)

  pub removed_one : files new place ≡ None → AreRemoved places (count + 1) first new
  removed_one gone = record {
    moments = removed_part;
    gone = λ p at. elim (Contains-push_cases (take count places) (get_or places count place) p
        (subst (λ (l : List Place). Contains l p) (take_more places count place lt) at)) [
          | inl earlier ↦ stays p (before_other p earlier) ∙ so_far.gone p earlier
          | inr now ↦ ap (files new) (sym now ∙ sym here) ∙ gone
        ];
    kept = λ p at. stays p (after_other p at) ∙ so_far.kept p
        (subst (λ (l : List Place). Contains l p) (sym (drop-cons places count place lt) ∙ refl)
        (Contains-append_right (get_or places count place ∷ []) (drop (suc count) places) p (subst (λ (n : ℕ). Contains (drop n places) p) (let e : count + 1 ≡ suc count = omega arith in e) at)));
  }

-- the next one is there
pub next_there : (places : List Place) (count : ℕ) (place : Place) → count < length places → place ≡ get_or places count place → (old now : DiskView)
    → AreRemoved places count old now → ((p : Place) → Contains places p → IsSome (files old p)) → IsSome (files now place)
next_there places count place lt here old now removed there =
    subst IsSome (sym (removed.kept place
    (0, omega (arith, lt, length-drop count places), get_or-drop count places 0 place ∙ ap (λ (n : ℕ). get_or places n place) (let e : count + 0 ≡ count = omega arith in e) ∙ sym here)))
    (there place (count, lt, sym here))

-- ---- all of them

pub all_removed : (places : List Place) (count : ℕ) (old now : DiskView) → length places ≤ count → AreRemoved places count old now → (p : Place)
    → Contains places p → files now p ≡ None
all_removed places count old now all removed p at =
    removed.gone p (subst (λ (l : List Place). Contains l p) (sym (take_all count places all)) at)
