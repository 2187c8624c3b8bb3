-- What is found among the same versions in another order.
use Rattle.std.proofs.Common.{◌≡◌, ℕ, List, Some, sym, refl, ap, ◌∙◌, subst}
use Rattle.std.specs.Prelude.{Option, None, Result, Ok, Err, IfOk, IsErrAnd, MatchResult}
use Rattle.memtable_shards.specs.Versions.{Version}
use Rattle.memtable_shards.specs.Newest.{Found, FindsNewest, Told, told, TellsNewest, value_found}
use Rattle.memtable_shards.specs.Versions.{shard_of, HasSameVersions}
use Rattle.commit_queue.specs.declared.view.View.{View}
use Rattle.commit_queue.specs.Calls.{GivesSame}
use Rattle.commit_queue.specs.Tells.{TakesShard}
use Rattle.commit_queue.specs.Views.{given_view}
use Rattle.shard_gate.specs.Gates.{ReadsNewest}

pub finds_same : (old new : List Version) (key : List ℕ) (below : ℕ) (found : Found) → HasSameVersions old new
    → FindsNewest new key below found → FindsNewest old key below found
finds_same old new key below found same finds = go (told found) finds
  where
    go : (it : Option Told) → TellsNewest new key below it → TellsNewest old key below it
    go None none = λ other stands. none other ((same other).1 stands)
    go (Some it) (version, newest, its) = (
      version,
      record {
        stands = (same version).0 newest.stands;
        about = newest.about;
        under = newest.under;
        last = λ other stands. newest.last other ((same other).1 stands);
      },
      its,
    )

-- The same versions may be given back.
pub gives_same : (v v' : View) (shard : ℕ) (versions settled : List Version) → TakesShard v shard versions v'
    → HasSameVersions versions settled → GivesSame v' settled
gives_same v v' shard versions settled taken same =
    subst (λ (w : View). GivesSame w settled) (sym taken.view) record { shard = shard; turn = refl; same = same }

-- What is found once the same versions are settled is read, with the shard given back.
pub reads_newest : (v v' w : View) (key : List ℕ) (below shard : ℕ) (versions settled : List Version) (found : Found)
    (value : Option (List ℕ)) → shard ≡ shard_of key → TakesShard v shard versions v' → HasSameVersions versions settled
    → FindsNewest settled key below found → value ≡ value_found found → w ≡ given_view v' → ReadsNewest v key below value w
reads_newest v v' w key below shard versions settled found value of_key taken same finds is given = record {
  versions = versions;
  taken = subst (TakesShard v (shard_of key) versions) its.view its;
  found = found;
  finds = finds_same versions settled key below found same finds;
  value_is = is;
  view = given ∙ ap given_view its.view;
}
  where
    its : TakesShard v (shard_of key) versions v'
    its = subst (λ (k : ℕ). TakesShard v k versions v') of_key taken

-- ---- results

pub if_ok_more : {A E : Type 0} (r : Result A E) (P Q : A → Type 0) → ((a : A) → P a → Q a) → IfOk r P → IfOk r Q
if_ok_more (Ok a) P Q more holds = more a holds
if_ok_more (Err e) P Q more holds = tt

-- another error in place of an error
pub if_ok_still : {A E D : Type 0} (r : Result A E) (s : Result A D) (P : A → Type 0) (Q : E → D → Type 0)
    → MatchResult r (λ a. s ≡ Ok a) (λ e. IsErrAnd s (Q e)) → IfOk r P → IfOk s P
if_ok_still {A = A} {D = D} (Ok a) s P Q is holds = subst (λ (t : Result A D). IfOk t P) (sym is) holds
if_ok_still (Err e) (Ok a) P Q is holds = absurd is
if_ok_still (Err e) (Err d) P Q is holds = tt
