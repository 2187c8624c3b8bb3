-- What is said of an answer, said of it in other words.
use Rattle.std.proofs.Common.{◌≡◌, ℕ, List, Result, Ok, Err, sym, subst}
use Rattle.std.specs.Prelude.{IfOk, IsOkAnd}
use Rattle.wal_top.specs.declared.status.Status.{Status}

pub ok_map : {T E : Type 0} {P Q : T → Type 0} (r : Result T E) → IfOk r P → ((x : T) → P x → Q x) → IfOk r Q
ok_map (Ok x) p f = f x p
ok_map (Err e) p f = tt

-- a status and a text are as they are told
pub as_told : (P : Status → List ℕ → Type 0) (status said : Status) (text told : List ℕ) → P said told → status ≡ said → text ≡ told → P status text
as_told P status said text told h s t = subst (λ (x : Status). P x text) (sym s) (subst (λ (x : List ℕ). P said x) (sym t) h)

pub ok_then : {T E : Type 0} (P : T → Type 0) (r : Result T E) (x : T) → r ≡ Ok x → IfOk r P → P x
ok_then P r x e p = subst (λ (s : Result _ _). IfOk s P) e p

-- what holds of each answer, and of an answer that there is
pub both_of : {T E : Type 0} {P Q : T → Type 0} (r : Result T E) → IfOk r P → IsOkAnd r Q → (x : T) × P x × Q x
both_of (Ok x) p q = (x, p, q)
both_of (Err e) p q = absurd q
