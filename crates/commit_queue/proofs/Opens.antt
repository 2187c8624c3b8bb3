-- A new table keeps the rule.
use Rattle.std.proofs.Common.{◌≡◌, ℕ, zero, suc, ◌+◌, ◌<◌, List, [], ◌∷◌, length, map, ◌≢◌, get_or, set, replicate, Contains, slice_get, ◌↔◌, ◌⊎◌, sym, Some, None, true, false, refl, ◌∙◌, subst, arith, inl, ⊎_elim, length-set, get_or-set_other, get_or-set_same}
use mathlib.Core.Option.{some, some-injective}
use lib.ListN.{get_elem?, length-replicate, get_or-replicate}
use Rattle.atomic_table.specs.Table as table
use Rattle.atomic_table.proofs.Lists.{at_map}
use Rattle.wal_base.proofs.Laws.{prefix_same}
use Rattle.batch_repr.specs.declared.batch.Batch.{Batch}
use Rattle.memtable_shards.specs.declared.sharding.TheConstants.{SHARDS}
use Rattle.memtable_shards.specs.Versions.{Version}
use Rattle.memtable_shards.specs.Versions.{touches}
use Rattle.publish_core.specs.Machine.{nobody}
use Rattle.publish_core.specs.Schedule as start
use Rattle.publish_core.proofs.Laws.{put_here, at_below}
use Rattle.publish_core.proofs.Laws.{opens}
use Rattle.commit_queue.specs.declared.pipe_table.TableOpening.{TableOpening}
use Rattle.commit_queue.specs.declared.view.View.{View}
use Rattle.commit_queue.specs.declared.layout.TheConstants.{VISIBLE, RING_FROM, TURNS_FROM, WORDS}
use Rattle.commit_queue.specs.Shards.{NumberedBelow, IsApplied}
use Rattle.commit_queue.specs.Rule.{RingState, Slot, numbers, ViewOk, AtHome, Linked}
use Rattle.commit_queue.specs.Views.{first_view}

-- the words of a new table
abbrev pub opening_words : ℕ → List ℕ
opening_words base = set (replicate WORDS 0) VISIBLE base

word_zero : (base i : ℕ) → i < WORDS → i ≢ VISIBLE → get_or (opening_words base) i 0 ≡ 0
word_zero base i l n = get_or-set_other (replicate WORDS 0) VISIBLE i base 0 n ∙ get_or-replicate {A = ℕ} WORDS i 0 0 l

-- a place within a list has an item, however it is read
item_at : {A : Type 0} (xs : List A) (i : ℕ) → i < length xs → (x : A) × (get_elem? xs i ≡ some x) × (slice_get xs i ≡ Some x)
item_at [] i l = absurd (omega arith)
item_at (x ∷ xs) zero l = (x, refl, refl)
item_at (x ∷ xs) (suc i) l = item_at xs i (omega arith)

-- a shard with which a table is made is at home, and nothing is applied there
home : (shards : List (List Version)) (k : ℕ) → k < length shards → (c : RingState) → c.done k ≡ []
    → AtHome shards c (map some (map Some shards)) k
home shards k l c none_done = let x = item_at shards k l in (
  x.0,
  at_map some (map Some shards) k (Some x.0) (at_map Some shards k x.0 x.1),
  (
    x.0,
    x.2,
    subst (λ (d : List ℕ). (v : Version) → Contains x.0 v ↔ (Contains x.0 v ⊎ IsApplied c.batches d k v)) (sym none_done) (λ v. (
      (λ has. inl has),
      λ has. ⊎_elim (λ old. old) (λ (new : IsApplied c.batches [] k v). absurd new.2) has,
    )),
  ),
)

pub begins : (o : TableOpening) (slots : List Slot) → length o.shards.value ≡ SHARDS → NumberedBelow o.base o.shards.value
    → slots ≡ map Some o.shards.value → Linked o (table.opening (opening_words o.base) slots (first_view o.base o.shards.value))
begins o slots eight below are = let base : ℕ = o.base in let shards : List (List Version) = o.shards.value in
    let c : RingState = start.opening base in
    let wide : length (opening_words base) ≡ WORDS = length-set (replicate WORDS 0) VISIBLE base ∙ length-replicate {A = ℕ} WORDS 0 in record {
      core = c;
      sound = opens numbers touches base;
      base_is = refl;
      below = below;
      few = omega arith;
      small = λ i l. absurd (omega arith);
      first = λ i b e. let l = at_below {A = Batch} [] i b e in absurd (omega arith);
      shows = record {
        wide = wide;
        ends_word = word_zero base 0 (omega arith) (λ e. omega arith) ∙ (omega arith);
        visible_word = get_or-set_same (replicate WORDS 0) VISIBLE base 0 (omega arith);
        acked_word = word_zero base 2 (omega arith) (λ e. omega arith);
        ring_word = λ k l. word_zero base (k + RING_FROM) (omega arith) (λ e. omega arith);
        shard_word = λ k l. word_zero base (k + TURNS_FROM) (omega arith) (λ e. omega arith);
      };
      made = refl;
      each_view = λ j v e. view j v e;
      homes = λ k l _. subst (λ (x : List Slot). AtHome shards c (map some x) k) (sym are) (home shards k (omega arith) c refl);
    }
  where
    view : (j : ℕ) (v : View) → get_elem? (first_view o.base o.shards.value ∷ []) j ≡ some v → ViewOk o.shards.value (start.opening o.base) j v
    view zero v e = subst (ViewOk o.shards.value (start.opening o.base) 0) (some-injective (first_view o.base o.shards.value) v e) record {
      seat = put_here (λ _. nobody) 0 (first_view o.base o.shards.value).seat;
      base = λ _. (refl, refl, refl);
      known = prefix_same [];
      absorbed = prefix_same [];
      seen = λ _. omega arith;
      producer = λ _. refl;
      whole = λ _. refl;
      head = λ _. refl;
      turn = λ k q. let z : None ≡ Some k = q in cc;
      pieces = λ i k q. let z : None ≡ Some i = q in cc;
      idle = λ _. refl;
      acked_known = record {
        raised = λ (e : false ≡ true). cc;
        retired = λ n e. let z : None ≡ Some n = e in cc;
        alone = λ _. (refl, refl);
      };
    }
    view (suc j) v e = let l = at_below {A = View} (first_view o.base o.shards.value ∷ []) (suc j) v e in absurd (omega arith)
