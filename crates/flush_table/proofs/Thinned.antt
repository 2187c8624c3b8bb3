-- Files that are removed one after another: each is as it was, or is being removed.
use Rattle.std.proofs.Common.{◌≡◌, inl, inr, true, List, [], ◌∷◌, ◌++◌, Option, Some, None, sym, subst, ap, ◌∙◌, refl, arith}
use Rattle.std.specs.List.{AllByRecursion}
use native.Mathlib.Decide.{dec_le}
use Rattle.disk_face.specs.View.{Place, File, Files, DiskView, files, AtEachMoment, Call, was_listed, was_read, tables_were_listed, table_was_read, table_was_put, was_removed, was_started, was_polled}
use Rattle.disk_face.specs.Calls.{GoesOn}
use Rattle.disk_face.specs.Tables.{IsBeingRemoved, Removes}
use Rattle.disk_face.proofs.Laws.{makes_none, makes_further, moments_joined, same_place}
use Rattle.flush_table.specs.Removing.{IsThinned, IsRemovalOf, OnlyRemoves, RemovesOnce}

pub thinned_none : (P : Place → Type 0) (now : Files) → IsThinned P now now
thinned_none P now p = inl refl

removed_more : (a b c : Option File) → IsBeingRemoved a b → IsBeingRemoved b c → IsBeingRemoved a c
removed_more a b None x y = tt
removed_more None None (Some h) x y = absurd y
removed_more (Some f) None (Some h) x y = absurd y
removed_more None (Some g) (Some h) x y = absurd x
removed_more (Some f) (Some g) (Some h) x y = y ∙ ap (λ (k : File). record k { leaving = true }) x

pub thinned_more : (P : Place → Type 0) (a b c : Files) → IsThinned P a b → IsThinned P b c → IsThinned P a c
thinned_more P a b c x y p = elim (x p) [
  | inl e ↦ elim (y p) [
    | inl g ↦ inl (g ∙ e)
    | inr (is, gone) ↦ inr (is, subst (λ (o : Option File). IsBeingRemoved o (c p)) e gone)
  ]
  | inr (is, gone) ↦ elim (y p) [
    | inl g ↦ inr (is, subst (λ (o : Option File). IsBeingRemoved (a p) o) (sym g) gone)
    | inr (also, more) ↦ inr (is, removed_more (a p) (b p) (c p) gone more)
  ]
]

-- of more places
pub thinned_wider : (P Q : Place → Type 0) (old now : Files) → ((p : Place) → P p → Q p) → IsThinned P old now → IsThinned Q old now
thinned_wider P Q old now wider x p = elim (x p) [ inl e ↦ inl e | inr (is, gone) ↦ inr (wider p is, gone) ]

-- one removal
pub removes_thins : (P : Place → Type 0) (place : Place) (old new : DiskView) → P place → GoesOn old new → Removes place old new
    → AtEachMoment old.clock new (IsThinned P (files old))
removes_thins P place old new is goes gone k low high = elim (dec_le k old.clock) [
  | yes le ↦ subst (IsThinned P (files old))
      (sym (goes.history k le ∙ ap old.history (let e : k ≡ old.clock = omega (arith, low, le) in e))) (thinned_none P (files old))
  | no later ↦ λ p. elim (same_place p place) [
    | inl e ↦ inr (
      subst P (sym e) is,
      subst (λ (q : Place). IsBeingRemoved (files old q) (new.history k q)) (sym e) (gone.here k (omega (arith, later)) high),
    )
    | inr ne ↦ inl (gone.others k (omega (arith, later)) high p ne)
  ]
]

-- the moments of removals, and those of further ones
pub thins_further : (P : Place → Type 0) (first mid new : DiskView) → GoesOn first mid → GoesOn mid new
    → AtEachMoment first.clock mid (IsThinned P (files first)) → AtEachMoment mid.clock new (IsThinned P (files mid))
    → AtEachMoment first.clock new (IsThinned P (files first))
thins_further P first mid new a b x y =
    moments_joined first.clock mid new (IsThinned P (files first)) x b
    (λ k low high. thinned_more P (files first) (files mid) (new.history k) (x mid.clock a.clock (omega arith)) (y k low high))

-- ---- the calls

pub removes_none : (P : Place → Type 0) (v : DiskView) → OnlyRemoves P v v
removes_none P v = record { made = []; makes = makes_none v; removals = tt }

removals_append : (P : Place → Type 0) (front back : List Call) → AllByRecursion (IsRemovalOf P) front → AllByRecursion (IsRemovalOf P) back
    → AllByRecursion (IsRemovalOf P) (front ++ back)
removals_append P [] back a b = b
removals_append P (call ∷ front) back a b = (a.0, removals_append P front back a.1 b)

pub removes_more : (P : Place → Type 0) (old mid new : DiskView) → OnlyRemoves P old mid → OnlyRemoves P mid new → OnlyRemoves P old new
removes_more P old mid new a b = record {
  made = b.made ++ a.made;
  makes = makes_further a.made b.made old mid new a.makes b.makes;
  removals = removals_append P b.made a.made b.removals a.removals;
}

removals_wider : (P Q : Place → Type 0) → ((p : Place) → P p → Q p) → (calls : List Call) → AllByRecursion (IsRemovalOf P) calls
    → AllByRecursion (IsRemovalOf Q) calls
removals_wider P Q wider [] a = tt
removals_wider P Q wider (call ∷ calls) a = (one call a.0, removals_wider P Q wider calls a.1)
  where
    one : (c : Call) → IsRemovalOf P c → IsRemovalOf Q c
    one (was_listed side names) h = absurd h
    one (was_read side name len) h = absurd h
    one (tables_were_listed tables) h = absurd h
    one (table_was_read upto len) h = absurd h
    one (table_was_put upto bytes ok) h = absurd h
    one (was_removed place ok) h = wider place h
    one (was_started id flight) h = absurd h
    one (was_polled id answer) h = absurd h

pub removes_wider : (P Q : Place → Type 0) (old new : DiskView) → ((p : Place) → P p → Q p) → OnlyRemoves P old new → OnlyRemoves Q old new
removes_wider P Q old new wider a = record { made = a.made; makes = a.makes; removals = removals_wider P Q wider a.made a.removals }

-- the call that removes one file
pub removes_once : (P : Place → Type 0) (place : Place) (old new : DiskView) → P place → RemovesOnce place old new → OnlyRemoves P old new
removes_once P place old new is once = record { made = was_removed place once.0 ∷ []; makes = once.1; removals = (is, tt) }
