-- The segments of both sides are removed and then tables: each is still there before, and those so far are gone.
use Rattle.std.proofs.Common.{◌≡◌, ◌⊎◌, inl, inr, List, ◌++◌, Contains, Option, Some, None, IsSome, Result, Ok, Err, OnOk, sym, subst, ◌∙◌, refl}
use Rattle.std.proofs.lemmas.List.Elements.{Contains-append_cases, Contains-append_left, Contains-append_right}
use Rattle.disk_face.specs.declared.Side.{Side}
use Rattle.disk_face.specs.declared.Side.TheVariants.{Primary, Secondary}
use Rattle.disk_face.specs.declared.Listed.{Listed}
use Rattle.disk_face.specs.declared.TableListed.{TableListed}
use Rattle.disk_face.specs.View.{Place, segment, table, File, Files, DiskView, files, AtEachMoment}
use Rattle.disk_face.specs.Tables.{IsBeingRemoved}
use Rattle.wal_recovery.specs.declared.listing.Sides.{Sides}
use Rattle.flush_table.specs.Removing.{segment_places, table_places, covered_places, IsThinned}
use Rattle.flush_table.proofs.Listed.{map_contains}
use Rattle.flush_table.proofs.Thinned.{thinned_wider}

-- ---- the places are among all

module _ (sides : Sides) (tables : List TableListed) where
  pub among_ones : (names : List Listed) → names ≡ sides.primary → (p : Place) → Contains (segment_places Primary names) p → Contains (covered_places sides tables) p
  among_ones names is p at =
      Contains-append_left (segment_places Primary sides.primary ++ segment_places Secondary sides.secondary) (table_places tables) p
      (Contains-append_left (segment_places Primary sides.primary) (segment_places Secondary sides.secondary) p
      (subst (λ (l : List Listed). Contains (segment_places Primary l) p) is at))

  pub among_others : (names : List Listed) → names ≡ sides.secondary → (p : Place) → Contains (segment_places Secondary names) p
      → Contains (covered_places sides tables) p
  among_others names is p at =
      Contains-append_left (segment_places Primary sides.primary ++ segment_places Secondary sides.secondary) (table_places tables) p
      (Contains-append_right (segment_places Primary sides.primary) (segment_places Secondary sides.secondary) p
      (subst (λ (l : List Listed). Contains (segment_places Secondary l) p) is at))

  pub among_tables : (p : Place) → Contains (table_places tables) p → Contains (covered_places sides tables) p
  among_tables p at =
      Contains-append_right (segment_places Primary sides.primary ++ segment_places Secondary sides.secondary) (table_places tables) p at

-- ---- what is not among them stays, and what is gone stays gone

pub stays_there : (P : Place → Type 0) (old now : Files) (p : Place) → (P p → ⊥) → IsThinned P old now → IsSome (old p) → IsSome (now p)
stays_there P old now p not thinned there = elim (thinned p) [
  | inl e ↦ subst IsSome (sym e) there
  | inr (at, gone) ↦ absurd (not at)
]

gone_still : (a b : Option File) → a ≡ None → IsBeingRemoved a b → b ≡ None
gone_still None None is gone = refl
gone_still None (Some g) is gone = absurd gone
gone_still (Some f) b is gone = let clash : ◌≡◌ {A = Option File} (Some f) None = is in absurd cc

pub stays_gone : (P : Place → Type 0) (old now : Files) (p : Place) → IsThinned P old now → old p ≡ None → now p ≡ None
stays_gone P old now p thinned none = elim (thinned p) [
  | inl e ↦ e ∙ none
  | inr (at, gone) ↦ gone_still (old p) (now p) none gone
]

-- a segment of the other side, and a table, are not among the segments of a side
pub not_on_primary : (names others : List Listed) (p : Place) → Contains (segment_places Secondary others) p → Contains (segment_places Primary names) p → ⊥
not_on_primary names others p there here =
    let a = map_contains (λ (l : Listed). segment Secondary l.name) others p there in
    let b = map_contains (λ (l : Listed). segment Primary l.name) names p here in
    let clash : segment Secondary a.0.name ≡ segment Primary b.0.name = sym a.2 ∙ b.2 in
    cc

pub no_segment_of : (side : Side) (names : List Listed) (tables : List TableListed) (p : Place) → Contains (table_places tables) p
    → Contains (segment_places side names) p → ⊥
no_segment_of side names tables p there here =
    let a = map_contains (λ (l : TableListed). table l.upto) tables p there in
    let b = map_contains (λ (l : Listed). segment side l.name) names p here in
    let clash : table a.0.upto ≡ segment side b.0.name = sym a.2 ∙ b.2 in
    cc

-- ---- moments

pub throughout_wider : (P Q : Place → Type 0) (since old : DiskView) (new : DiskView) → ((p : Place) → P p → Q p)
    → AtEachMoment since.clock new (IsThinned P (files old)) → AtEachMoment since.clock new (IsThinned Q (files old))
throughout_wider P Q since old new wider each k low high = thinned_wider P Q (files old) (new.history k) wider (each k low high)

-- ---- parts

pub in_parts : (sides : Sides) (tables : List TableListed) (p : Place) → Contains (covered_places sides tables) p
    → Contains (segment_places Primary sides.primary) p ⊎ (Contains (segment_places Secondary sides.secondary) p ⊎ Contains (table_places tables) p)
in_parts sides tables p at = elim (Contains-append_cases (segment_places Primary sides.primary ++ segment_places Secondary sides.secondary) (table_places tables) p at) [
  | inr here ↦ inr (inr here)
  | inl on ↦ elim (Contains-append_cases (segment_places Primary sides.primary) (segment_places Secondary sides.secondary) p on) [ inl one ↦ inl one | inr other ↦ inr (inl other) ]
]

-- what follows from what holds after Ok holds then too
pub on_ok_map : {A E : Type 0} (r : Result A E) (P Q : Type 0) → (P → Q) → OnOk r P → OnOk r Q
on_ok_map (Ok x) P Q then_ p = then_ p
on_ok_map (Err e) P Q then_ p = tt
