-- What holds of a result, from what holds of another fact on it, and of two options that are the same.
use Rattle.std.proofs.Common.{◌≡◌, Some, Result, Ok, Err}
use Rattle.std.specs.Prelude.{IfOk, IfErr, OnOk}

pub ok_map : {A E : Type 0} (P Q : A → Type 0) (r : Result A E) → ((x : A) → P x → Q x) → IfOk r P → IfOk r Q
ok_map P Q (Ok x) h p = h x p
ok_map P Q (Err e) h p = tt

pub err_map : {A E : Type 0} (P Q : E → Type 0) (r : Result A E) → ((e : E) → P e → Q e) → IfErr r P → IfErr r Q
err_map P Q (Ok x) h p = tt
err_map P Q (Err e) h p = h e p

pub on_ok_map : {A E : Type 0} (P Q : Type 0) (r : Result A E) → (P → Q) → OnOk r P → OnOk r Q
on_ok_map P Q (Ok x) h p = h p
on_ok_map P Q (Err e) h p = tt

pub always_ok : {A E : Type 0} (P : Type 0) (r : Result A E) → P → OnOk r P
always_ok P (Ok x) p = p
always_ok P (Err e) p = tt

-- a premise that is known
pub ok_given : {A E : Type 0} (R T : Type 0) (P : A → Type 0) (r : Result A E) → (T → R) → IfOk r (λ x. T → R → P x) → IfOk r (λ x. T → P x)
ok_given R T P (Ok x) known p = λ t. p t (known t)
ok_given R T P (Err e) known p = tt

pub err_given : {A E : Type 0} (R T : Type 0) (P : E → Type 0) (r : Result A E) → (T → R) → IfErr r (λ e. T → R → P e) → IfErr r (λ e. T → P e)
err_given R T P (Ok x) known p = tt
err_given R T P (Err e) known p = λ t. p t (known t)

pub some_is : {X : Type 0} (x y : X) → Some x ≡ Some y → x ≡ y
some_is x y e = cc
