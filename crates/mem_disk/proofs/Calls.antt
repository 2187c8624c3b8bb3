-- What one moment more means for the whole disk.
use Rattle.std.proofs.Common.{◌≡◌, ◌≤◌, ◌<◌, ℕ, zero, suc, List, [], ◌∷◌, ◌++◌, length, length-append, drop, ap, sym, ◌∙◌, refl, subst, Option, Some, None, arith}
use Rattle.std.specs.Prelude.{Result, Ok, Err, OnErr}
use Rattle.std.proofs.lemmas.List.{drop-append-le}
use native.Mathlib.Decide.{dec_le}
use Rattle.disk_face.specs.declared.Side.{Side}
use Rattle.disk_face.specs.View.{Place, Flight, Act, creating, writing, syncing, File, Files, Call, files}
use Rattle.disk_face.specs.Calls.{GoesOn, ChangesFile, AfterFailed}
use Rattle.disk_face.specs.Tables.{ChangesInCall}
use Rattle.mem_disk.specs.declared.parts.MemFile.{MemFile}
use Rattle.mem_disk.specs.declared.parts.MemOp.{MemOp}
use Rattle.mem_disk.specs.Finite.{now_held}
use Rattle.mem_disk.specs.Mem.{files_held, first_or_now, at_moment, mem_view, flight_in, ChangesAt}

-- the files that stand now
pub files_now : (past : List (List MemFile)) (now : List MemFile) → files_held (at_moment past now (length past)) ≡ files_held now
files_now past now = ap files_held (now_held past now)

-- a moment that has passed stays what it was
pub past_kept : (past : List (List MemFile)) (old new : List MemFile) (k : ℕ) → k ≤ length past → at_moment (past ++ old ∷ []) new k ≡ at_moment past old k
past_kept past old new k le = ap (first_or_now new) (drop-append-le k past (old ∷ []) le) ∙ go (drop k past)
  where
    go : (later : List (List MemFile)) → first_or_now new (later ++ old ∷ []) ≡ first_or_now old later
    go [] = refl
    go (was ∷ later) = refl

drop_none : (n : ℕ) → ◌≡◌ {A = List (List MemFile)} (drop n []) []
drop_none zero = refl
drop_none (suc n) = refl

-- from the last moment on the files stand as they do now
now_after : (past : List (List MemFile)) (now : List MemFile) (k : ℕ) → length past ≤ k → at_moment past now k ≡ now
now_after [] now k le = ap (first_or_now now) (drop_none k)
now_after (was ∷ past) now zero le = absurd (omega (arith, le))
now_after (was ∷ past) now (suc k) le = now_after past now k (omega (arith, le))

module _ (fs gs : List MemFile) (ops ops' : List MemOp) (past past' : List (List MemFile)) (f f' p p' : Side → ℕ) (calls calls' : List Call)
    (longer : past' ≡ past ++ fs ∷ []) where
  next : length past' ≡ suc (length past)
  next = ap length longer ∙ omega (arith, length-append past (fs ∷ []))

  pub goes_on_moment : ((s : Side) → f s ≤ f' s) → ((s : Side) → p' s ≤ p s)
      → GoesOn (mem_view fs ops past f p calls) (mem_view gs ops' past' f' p' calls')
  unfolding mem_view
  goes_on_moment faults polls = record {
    faults = faults;
    polls = polls;
    clock = omega (arith, next);
    history = λ k le. ap (λ (l : List (List MemFile)). files_held (at_moment l gs k)) longer ∙ ap files_held (past_kept past fs gs k le);
  }

  pub changes_moment : (place : Place) (Change : Option File → Option File → Type 0)
      → ChangesAt place Change (files_held fs) (files_held gs) → ChangesFile place Change (mem_view fs ops past f p calls)
      (mem_view gs ops' past' f' p' calls')
  unfolding mem_view
  changes_moment place Change h = record {
    clock = next;
    here = subst (λ (x : Files). Change (x place) (files (mem_view gs ops' past' f' p' calls') place)) (sym (files_now past fs))
        (subst (λ (x : Files). Change (files_held fs place) (x place)) (sym (files_now past' gs)) h.here);
    others = λ q ne. ap (λ (x : Files). x q) (files_now past' gs) ∙ h.others q ne ∙ ap (λ (x : Files). x q) (sym (files_now past fs));
  }

-- a call in two moments
pub call_in_two : (fs mid gs : List MemFile) (ops ops' : List MemOp) (past past' : List (List MemFile)) (f f' p p' : Side → ℕ) (calls calls' : List Call)
    → past' ≡ (past ++ fs ∷ []) ++ mid ∷ [] → (place : Place) (First Second : Option File → Option File → Type 0) (Form : Option File → Type 0)
    → ((g : Option File) → First (files_held fs place) g → Form g) → ((g : Option File) → Second (files_held mid place) g → Form g)
    → ChangesAt place First (files_held fs) (files_held mid) → ChangesAt place Second (files_held mid) (files_held gs)
    → ChangesInCall place Form (mem_view fs ops past f p calls) (mem_view gs ops' past' f' p' calls')
unfolding mem_view
call_in_two fs mid gs ops ops' past past' f f' p p' calls calls' longer place First Second Form to_first to_second first second = record {
  later = omega (arith, clock);
  here = λ k after le. elim (dec_le k (suc (length past))) [
    | yes low ↦ subst (λ (l : List MemFile). Form (files_held l place)) (sym (between k after low)) (to_first (files_held mid place) first.here)
    | no high ↦ subst (λ (l : List MemFile). Form (files_held l place)) (sym (ends k high)) (to_second (files_held gs place) second.here)
  ];
  others = λ k after le q ne. elim (dec_le k (suc (length past))) [
    | yes low ↦ ap (λ (l : List MemFile). files_held l q) (between k after low) ∙ first.others q ne ∙ ap (λ (x : Files). x q) (sym (files_now past fs))
    | no high ↦ ap (λ (l : List MemFile). files_held l q) (ends k high) ∙ second.others q ne ∙ first.others q ne
        ∙ ap (λ (x : Files). x q) (sym (files_now past fs))
  ];
}
  where
    front : length (past ++ fs ∷ []) ≡ suc (length past)
    front = omega (arith, length-append past (fs ∷ []))

    clock : length past' ≡ suc (suc (length past))
    clock = ap length longer ∙ omega (arith, length-append (past ++ fs ∷ []) (mid ∷ []), front)

    between : (k : ℕ) → length past < k → k ≤ suc (length past) → at_moment past' gs k ≡ mid
    between k after low = ap (λ (l : List (List MemFile)). at_moment l gs k) longer ∙ past_kept (past ++ fs ∷ []) mid gs k (omega (arith, low, front))
        ∙ now_after (past ++ fs ∷ []) mid k (omega (arith, after, front))

    ends : (k : ℕ) → (k ≤ suc (length past) → ⊥) → at_moment past' gs k ≡ gs
    ends k high = now_after past' gs k (omega (arith, high, clock))

pub view_same : (fs gs : List MemFile) (ops ops' : List MemOp) (past : List (List MemFile)) (f p : Side → ℕ) (calls : List Call)
    → files_held gs ≡ files_held fs → ops' ≡ ops → mem_view gs ops' past f p calls ≡ mem_view fs ops past f p calls
unfolding mem_view
view_same fs gs ops ops' past f p calls e o = λ i. record {
  faults = f;
  polls_left = p;
  in_flight = flight_in (o i);
  clock = length past;
  history = λ k. same k i;
  calls = calls;
}
  where
    same : (k : ℕ) → files_held (at_moment past gs k) ≡ files_held (at_moment past fs k)
    same k = go (drop k past)
      where
        go : (later : List (List MemFile)) → files_held (first_or_now gs later) ≡ files_held (first_or_now fs later)
        go [] = e
        go (was ∷ later) = refl

pub same_flight : (o : Option Flight) (x y : Flight) → o ≡ Some x → o ≡ Some y → x ≡ y
same_flight o x y a b = let z : Some x ≡ Some y = sym a ∙ b in cc

pub failed_file : (act : Act) (f : Option File) → AfterFailed act f f
failed_file act None = refl
failed_file creating (Some f) = refl
failed_file writing (Some f) = (f.reads, refl)
failed_file syncing (Some f) = refl

pub on_err : {T E : Type 0} (r : Result T E) (P : Type 0) → P → OnErr r P
on_err (Ok x) P h = tt
on_err (Err e) P h = h
