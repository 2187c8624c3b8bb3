-- The keys of a load, counted one after another.
use Rattle.std.proofs.Common.{◌≡◌, ◌∙◌, ℕ, ◌+◌, ◌<◌, ◌≤◌, Bool, true, false, List, [], ◌∷◌, ◌++◌, length, take, get_or, Contains, le_refl, refl, sym, ap, subst, arith}
use Rattle.std.specs.Prelude.{is_some, count_by}
use Rattle.std.proofs.lemmas.List.{take_all}
use Rattle.std.proofs.lemmas.List.FromFn.{length-map-range_with_len, get_or-map-range_with_len}
use Rattle.std.proofs.lemmas.List.Sums.{count_by_more_no, count_by_more_yes}
use Rattle.wal_base.specs.Prefixes.{IsPrefixOf}
use Rattle.wal_base.proofs.Laws.{prefix_same, prefix_then, longer_prefix, prefix_whole}
use Rattle.batch_repr.specs.declared.batch.Batch.{Batch}
use Rattle.batch_repr.specs.Batches.{answer}
use Rattle.made_load.specs.declared.load.TheConstants.{LOAD_KEYS}
use Rattle.made_load.specs.Load.{load_key, load_keys, live_keys}
use Rattle.commit_pipeline.specs.declared.fault.Reply.{Reply}
use Rattle.commit_pipeline.specs.Openings.{Opening}
use Rattle.commit_pipeline.specs.declared.standing.Standing.{Standing}
use Rattle.commit_pipeline.specs.Standings.{Idles}
use Rattle.commit_pipeline.specs.Commits.{TellsRead}
use Rattle.session_replies.specs.Legal.{Replied}
use Rattle.session_rounds.specs.Players.{ReadersView, FirstReads}
use Rattle.script_runner.specs.declared.performing.Told.{Told}
use Rattle.script_runner.specs.Works.{CountsLive, KeepsCount}

-- whether a key has a value after all batches
abbrev pub has_value : List Batch → List ℕ → Bool
has_value store key = is_some (answer store (length store) key)

pub record KeysSoFar (opening : Opening) (old now : ReadersView) (index live : ℕ) : Type 0 where
  pub first : Standing
  pub first' : Standing
  pub others : List Standing
  pub was : old.now ≡ first ∷ others
  pub is : now.now ≡ first' ∷ others
  pub met : now.met ≡ old.met
  pub idles : Idles first first'
  pub few : live ≤ index
  pub counts : first'.seen ≡ first.seen → live ≡ count_by (has_value (opening.base ++ first.seen)) (take index load_keys)

-- a session that does nothing
idle_still : (s : Standing) → Idles s s
idle_still s = record {
  goes_on = record { seen = prefix_same s.seen; acked = le_refl s.acked; told = le_refl s.told };
  own = refl;
  told = refl;
}

idle_then : (s mid new : Standing) → Idles s mid → Idles mid new → Idles s new
idle_then s mid new one two = record {
  goes_on = record {
    seen = prefix_then s.seen mid.seen new.seen one.goes_on.seen two.goes_on.seen;
    acked = omega (arith, one.goes_on.acked, two.goes_on.acked);
    told = omega (arith, one.goes_on.told, two.goes_on.told);
  };
  own = two.own ∙ one.own;
  told = two.told ∙ one.told;
}

-- where it sees no more in the end, it saw no more between
between : (s mid new : Standing) → Idles s mid → Idles mid new → new.seen ≡ s.seen → mid.seen ≡ s.seen
between s mid new one two same =
    let back : IsPrefixOf mid.seen s.seen = subst (IsPrefixOf mid.seen) same two.goes_on.seen in
    prefix_whole mid.seen s.seen back (longer_prefix s.seen mid.seen one.goes_on.seen)

pub no_key_yet : (opening : Opening) (readers : ReadersView) → 1 ≤ length readers.now → KeysSoFar opening readers readers 0 0
no_key_yet opening readers some = go readers.now refl
  where
    go : (ss : List Standing) → readers.now ≡ ss → KeysSoFar opening readers readers 0 0
    go [] none = absurd (let bad : 1 ≤ 0 = subst (λ (l : List Standing). 1 ≤ length l) none some in omega (arith, bad))
    go (s ∷ ss) is = record {
      first = s;
      first' = s;
      others = ss;
      was = is;
      is = is;
      met = refl;
      idles = idle_still s;
      few = omega arith;
      counts = λ same. refl;
    }

-- there is a first one still
pub some_reader : (opening : Opening) (old now : ReadersView) (index live : ℕ) → KeysSoFar opening old now index live → 1 ≤ length now.now
some_reader opening old now index live so = subst (λ (l : List Standing). 1 ≤ length l) (sym so.is) (omega arith)

keys_are : length load_keys ≡ LOAD_KEYS
unfolding load_keys
keys_are = length-map-range_with_len load_key 0 LOAD_KEYS

key_at : (index : ℕ) → index < LOAD_KEYS → get_or load_keys index (load_key index) ≡ load_key index
unfolding load_keys
key_at index below = get_or-map-range_with_len load_key 0 LOAD_KEYS index index (load_key index) below (omega arith)

module _ (opening : Opening) (old mid new : ReadersView) (index live : ℕ) (key : List ℕ) (reply : Reply)
    (so : KeysSoFar opening old mid index live) (below : index < LOAD_KEYS) (key_is : key ≡ load_key index)
    (read : FirstReads opening key reply mid new) where
  same_row : (so.first' ∷ so.others) ≡ (read.first ∷ read.others)
  same_row = sym so.is ∙ read.was

  tells : TellsRead opening key reply so.first' read.first'
  tells = let same : read.first ≡ so.first' = cc in subst (λ (s : Standing). TellsRead opening key reply s read.first') same read.reads

  value_is : read.first'.seen ≡ so.first.seen → has_value (opening.base ++ so.first.seen) (get_or load_keys index (load_key index)) ≡ is_some reply.value
  value_is same =
      ap (has_value (opening.base ++ so.first.seen)) (key_at index below ∙ sym key_is)
      ∙ sym (ap is_some tells.value ∙ ap (λ (seen : List Batch). has_value (opening.base ++ seen) key) same)

  no_more : read.first'.seen ≡ so.first.seen → so.first'.seen ≡ so.first.seen
  no_more same = between so.first so.first' read.first' so.idles tells.idles same

  now_is : new.now ≡ read.first' ∷ so.others
  now_is = let same : read.others ≡ so.others = cc in read.is ∙ ap (λ (l : List Standing). read.first' ∷ l) same

  pub one_live : is_some reply.value ≡ true → KeysSoFar opening old new (index + 1) (live + 1)
  one_live some = record {
    first = so.first;
    first' = read.first';
    others = so.others;
    was = so.was;
    is = now_is;
    met = read.met ∙ so.met;
    idles = idle_then so.first so.first' read.first' so.idles tells.idles;
    few = omega (arith, so.few);
    counts = λ same. ap (λ (n : ℕ). n + 1) (so.counts (no_more same))
        ∙ sym (count_by_more_yes (has_value (opening.base ++ so.first.seen)) load_keys index (load_key index) (omega (arith, below, keys_are))
        (value_is same ∙ some));
  }

  pub none_live : is_some reply.value ≡ false → KeysSoFar opening old new (index + 1) live
  none_live none = record {
    first = so.first;
    first' = read.first';
    others = so.others;
    was = so.was;
    is = now_is;
    met = read.met ∙ so.met;
    idles = idle_then so.first so.first' read.first' so.idles tells.idles;
    few = omega (arith, so.few);
    counts = λ same. so.counts (no_more same)
        ∙ sym (count_by_more_no (has_value (opening.base ++ so.first.seen)) load_keys index (load_key index) (omega (arith, below, keys_are))
        (value_is same ∙ none));
  }

pub all_counted : (opening : Opening) (old new : ReadersView) (index live : ℕ) → LOAD_KEYS ≤ index → KeysSoFar opening old new index live
    → CountsLive opening live old new
unfolding live_keys
all_counted opening old new index live all so = record {
  first = so.first;
  first' = so.first';
  others = so.others;
  was = so.was;
  is = so.is;
  met = so.met;
  idles = so.idles;
  counts = λ same. so.counts same
      ∙ ap (count_by (has_value (opening.base ++ so.first.seen))) (take_all index load_keys (omega (arith, all, keys_are)));
}

-- What it counts is the number of live keys after all batches, where it had seen just these.
pub keeps_count : (opening : Opening) (told : Told) (own : List (List Replied)) (old new : ReadersView) → old.met ≡ old.now
    → CountsLive opening told.live old new → KeepsCount opening told own new
keeps_count opening told own old new same counts batches seen within =
    let all : counts.first.seen ≡ batches =
    seen counts.first (subst (λ (l : List Standing). Contains l counts.first) (sym (counts.met ∙ same ∙ counts.was)) (0, omega arith, refl)) in
    let there : IsPrefixOf counts.first'.seen batches =
    within counts.first' (subst (λ (l : List Standing). Contains l counts.first') (sym counts.is) (0, omega arith, refl)) in
    let back : IsPrefixOf counts.first'.seen counts.first.seen = subst (IsPrefixOf counts.first'.seen) (sym all) there in
    let no_more : counts.first'.seen ≡ counts.first.seen =
    prefix_whole counts.first'.seen counts.first.seen back (longer_prefix counts.first.seen counts.first'.seen counts.idles.goes_on.seen) in
    counts.counts no_more ∙ ap (λ (seen : List Batch). live_keys (opening.base ++ seen)) all
