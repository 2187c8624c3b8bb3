-- Keys with a common front: what follows it decides. A key that does not begin with it goes before or after them all.
use Rattle.std.proofs.Common.{◌≡◌, ◌≢◌, ◌⊎◌, inl, inr, ℕ, zero, suc, ◌+◌, ◌<◌, ◌≤◌, List, [], ◌∷◌, ◌++◌, length, take, drop, Contains, Ordering, Less, Equal, Greater, nat_cmp, refl, sym, ap, ap₂, ◌∙◌, subst, arith, length-append, slice_index_or}
use Rattle.std.specs.Ordering.{ordering_then, ordering_reverse}
use Rattle.std.specs.Cmp.{IsTotalOrder}
use Rattle.std.specs.Cmp.Lexicographic.{slice_cmp}
use Rattle.std.proofs.lemmas.Bool.{cases_lt}
use Rattle.std.proofs.lemmas.Bool.Decides.{nat_tests}
use Rattle.std.proofs.lemmas.Cmp.{ranked, tied_itself, nat_cmp_total, nat_list_cmp_total}
use Rattle.std.proofs.lemmas.List.{take-append-drop}
use Rattle.arena_list.specs.declared.node.Held.{Held}
use Rattle.arena_list.specs.declared.node.Node.{Node}
use Rattle.arena_list.specs.declared.sought.Sought.{Sought}
use Rattle.arena_list.specs.Leads.{lead_of, LengthsTell, LeadsTell, AreBytes}
use Rattle.arena_list.specs.Nodes.{key_of, node_at, places_on}
use Rattle.arena_list.specs.Fronts.{IsLed, ShareFront, HasFront, HaveFront, IsNodeTold, AreTold}
use Rattle.arena_list.proofs.Levels.{read_at}
use Rattle.arena_list.proofs.Orders.{keys_tied, less_numbers, greater_numbers}
use Rattle.arena_list.proofs.Leads.{lead_less, lead_greater, lead_same, lead_fits}

-- ---- what follows a front

front_apart : (front xs ys : List ℕ) → slice_cmp nat_cmp (front ++ xs) (front ++ ys) ≡ slice_cmp nat_cmp xs ys
front_apart [] xs ys = refl
front_apart (x ∷ front) xs ys =
    ap (λ (o : Ordering). ordering_then o (slice_cmp nat_cmp (front ++ xs) (front ++ ys))) (tied_itself nat_cmp_total x)
    ∙ front_apart front xs ys

pub same_more : (n a b : ℕ) → nat_cmp a b ≡ nat_cmp (n + a) (n + b)
same_more n a b = grind (arith, nat_tests)

pub bytes_after : (n : ℕ) (key : List ℕ) → AreBytes key → AreBytes (drop n key)
bytes_after zero key are = are
bytes_after (suc n) [] are = are
bytes_after (suc n) (x ∷ key) are = bytes_after n key (λ place. are (suc place))

-- a key that begins with the front
module _ (front key : List ℕ) (begins : take (length front) key ≡ front) where
  pub in_parts : front ++ drop (length front) key ≡ key
  in_parts = ap (λ (l : List ℕ). l ++ drop (length front) key) (sym begins) ∙ take-append-drop (length front) key

  pub parts_len : length key ≡ length front + length (drop (length front) key)
  parts_len = ap length (sym in_parts) ∙ length-append front (drop (length front) key)

-- two of them are as what follows is
module _ (front one other : List ℕ) (begins : take (length front) one ≡ front) (too : take (length front) other ≡ front)
    (are_one : AreBytes one) (are_other : AreBytes other) where
  abbrev pub rest_one : List ℕ
  rest_one = drop (length front) one

  abbrev pub rest_other : List ℕ
  rest_other = drop (length front) other

  as_rests : slice_cmp nat_cmp one other ≡ slice_cmp nat_cmp rest_one rest_other
  as_rests =
      ap₂ (λ (xs ys : List ℕ). slice_cmp nat_cmp xs ys) (sym (in_parts front one begins)) (sym (in_parts front other too))
      ∙ front_apart front rest_one rest_other

  pub rests_tell : (lead other_lead : ℕ) → lead ≡ lead_of rest_one → other_lead ≡ lead_of rest_other
      → LeadsTell one lead other other_lead (length front + 8)
  rests_tell lead other_lead is too_is = record {
    less = λ l. as_rests ∙ lead_less rest_one rest_other bytes_one bytes_other (omega (arith, l, is, too_is));
    greater = λ l. as_rests ∙ lead_greater rest_one rest_other bytes_one bytes_other (omega (arith, l, is, too_is));
    same = λ e short. as_rests ∙ lead_same rest_one rest_other bytes_one bytes_other (ends short) (sym is ∙ e ∙ too_is)
        ∙ same_more (length front) (length rest_one) (length rest_other)
        ∙ ap₂ (λ (m n : ℕ). nat_cmp m n) (sym (parts_len front one begins)) (sym (parts_len front other too));
  }
    where
      bytes_one : AreBytes rest_one
      bytes_one = bytes_after (length front) one are_one

      bytes_other : AreBytes rest_other
      bytes_other = bytes_after (length front) other are_other

      ends : (length one ≤ length front + 8) ⊎ (length other ≤ length front + 8) → (length rest_one ≤ 8) ⊎ (length rest_other ≤ 8)
      ends (inl low) = inl (omega (arith, low, parts_len front one begins))
      ends (inr low) = inr (omega (arith, low, parts_len front other too))

-- ---- a key that goes before or after them all

goes_before : (key front rest : List ℕ) → slice_cmp nat_cmp key front ≡ Less → slice_cmp nat_cmp key (front ++ rest) ≡ Less
goes_before [] [] rest less = absurd cc
goes_before [] (f ∷ front) rest less = refl
goes_before (k ∷ key) [] rest less = absurd cc
goes_before (k ∷ key) (f ∷ front) rest less = go (nat_cmp k f) less (goes_before key front rest)
  where
    go : (o : Ordering) → ordering_then o (slice_cmp nat_cmp key front) ≡ Less
        → (slice_cmp nat_cmp key front ≡ Less → slice_cmp nat_cmp key (front ++ rest) ≡ Less)
        → ordering_then o (slice_cmp nat_cmp key (front ++ rest)) ≡ Less
    go Less e later = refl
    go Equal e later = later e
    go Greater e later = absurd cc

goes_after : (key front rest : List ℕ) → take (length front) key ≢ front → slice_cmp nat_cmp key front ≢ Less
    → slice_cmp nat_cmp key (front ++ rest) ≡ Greater
goes_after key [] rest apart more = absurd (apart refl)
goes_after [] (f ∷ front) rest apart more = absurd (more refl)
goes_after (k ∷ key) (f ∷ front) rest apart more =
    go (nat_cmp k f) refl more (λ a m. goes_after key front rest a m)
  where
    go : (o : Ordering) → o ≡ nat_cmp k f → ordering_then o (slice_cmp nat_cmp key front) ≢ Less
        → (take (length front) key ≢ front → slice_cmp nat_cmp key front ≢ Less → slice_cmp nat_cmp key (front ++ rest) ≡ Greater)
        → ordering_then o (slice_cmp nat_cmp key (front ++ rest)) ≡ Greater
    go Less is m later = absurd (m refl)
    go Equal is m later = later (λ e. apart (ap₂ (λ (x : ℕ) (xs : List ℕ). x ∷ xs) (ranked k f Equal is) e)) m
    go Greater is m later = refl

reversed : (one other : List ℕ) (o : Ordering) → slice_cmp nat_cmp other one ≡ o → slice_cmp nat_cmp one other ≡ ordering_reverse o
reversed one other o is = IsTotalOrder.antisymm nat_list_cmp_total one other ∙ ap ordering_reverse is

-- where a key has no bytes, the lengths tell
pub nothing_told : (one other : List ℕ) → LengthsTell one other 0
nothing_told [] [] short = refl
nothing_told [] (y ∷ ys) short = sym (less_numbers 0 (length (y ∷ ys)) (omega arith))
nothing_told (x ∷ xs) [] short = sym (greater_numbers (length (x ∷ xs)) 0 (omega arith))
nothing_told (x ∷ xs) (y ∷ ys) (inl short) = absurd (omega (arith, short))
nothing_told (x ∷ xs) (y ∷ ys) (inr short) = absurd (omega (arith, short))

module _ (front : List ℕ) (node : Node) (key : List ℕ) (led : IsLed front node) where
  abbrev pub own : List ℕ
  own = key_of node.held

  pub told_within : (lead : ℕ) → take (length front) key ≡ front → AreBytes key → lead ≡ lead_of (drop (length front) key)
      → LeadsTell own node.lead key lead (length front + 8)
  told_within lead begins are is = rests_tell front own key led.begins begins led.bytes are node.lead lead led.lead is

  pub told_before : slice_cmp nat_cmp key front ≡ Less → LeadsTell own node.lead key 0 0
  told_before less = record {
    less = λ l. absurd (omega (arith, l));
    greater = λ _. reversed own key Less
        (subst (λ (l : List ℕ). slice_cmp nat_cmp key l ≡ Less) (in_parts front own led.begins)
        (goes_before key front (drop (length front) own) less));
    same = λ _. nothing_told own key;
  }

  pub told_after : take (length front) key ≢ front → slice_cmp nat_cmp key front ≢ Less → LeadsTell own node.lead key 18446744073709551615 0
  told_after apart more = record {
    less = λ _. reversed own key Greater
        (subst (λ (l : List ℕ). slice_cmp nat_cmp key l ≡ Greater) (in_parts front own led.begins)
        (goes_after key front (drop (length front) own) apart more));
    greater = λ l. absurd (omega (
      arith,
      l,
      led.lead,
      lead_fits (drop (length front) own) (bytes_after (length front) own led.bytes),
    ));
    same = λ _. nothing_told own key;
  }

-- two nodes
pub told_of : (shared : ℕ) (node other : Node) → HaveFront shared node other
    → LeadsTell (key_of node.held) node.lead (key_of other.held) other.lead (shared + 8)
told_of shared node other (front, len, led, too) =
    subst (λ (n : ℕ). LeadsTell (key_of node.held) node.lead (key_of other.held) other.lead (n + 8)) len
    (told_within front node (key_of other.held) led other.lead too.begins too.bytes too.lead)

-- ---- a front that stays

pub led_same : (front : List ℕ) (one other : Node) → other.held ≡ one.held → other.lead ≡ one.lead → IsLed front one → IsLed front other
led_same front one other held lead led = record {
  begins = ap (λ (h : Held). take (length front) (key_of h)) held ∙ led.begins;
  lead = lead ∙ led.lead ∙ ap (λ (h : Held). lead_of (drop (length front) (key_of h))) (sym held);
  bytes = subst (λ (h : Held). AreBytes (key_of h)) (sym held) led.bytes;
}

-- each place that is linked now was linked before, with the same key
abbrev pub KeepsKeys : List Node → List Node → Type 0
KeepsKeys old new = (place : ℕ) → Contains (places_on new 0) place
    → Contains (places_on old 0) place × ((node_at new place).held ≡ (node_at old place).held) × ((node_at new place).lead ≡ (node_at old place).lead)

pub front_kept : {shared : ℕ} (old new : List Node) → KeepsKeys old new → ShareFront shared old → ShareFront shared new
front_kept old new keeps is = record {
  front = is.front;
  len = is.len;
  led = λ place h.
      let k = keeps place h in
      led_same is.front (node_at old place) (node_at new place) k.1 k.2 (is.led place k.0);
}

-- equal keys have equal leads
pub leads_equal : (one : List ℕ) (lead : ℕ) (other : List ℕ) (other_lead extent : ℕ) → LeadsTell one lead other other_lead extent → one ≡ other
    → lead ≡ other_lead
leads_equal one lead other other_lead extent told same = elim (cases_lt lead other_lead) [
  | inl less ↦ let is : slice_cmp nat_cmp one other ≡ Less = told.less less in let e : slice_cmp nat_cmp one other ≡ Equal = tied in absurd cc
  | inr most ↦ elim (cases_lt other_lead lead) [
    | inl more ↦ let is : slice_cmp nat_cmp one other ≡ Greater = told.greater more in let e : slice_cmp nat_cmp one other ≡ Equal = tied in absurd cc
    | inr least ↦ omega (arith, most, least)
  ]
]
  where
    tied : slice_cmp nat_cmp one other ≡ Equal
    tied = ap (slice_cmp nat_cmp one) (sym same) ∙ keys_tied one

-- what a node's key has behind the front
pub behind_front : (shared : ℕ) (node : Node) → HasFront shared node
    → (node.lead ≡ lead_of (drop shared (key_of node.held))) × (length (key_of node.held) ≡ shared + length (drop shared (key_of node.held)))
behind_front shared node (front, len, led) = (
  led.lead ∙ ap (λ (n : ℕ). lead_of (drop n (key_of node.held))) len,
  subst (λ (n : ℕ). length (key_of node.held) ≡ n + length (drop n (key_of node.held))) len (parts_len front (key_of node.held) led.begins),
)

pub front_has : {shared : ℕ} (nodes : List Node) → ShareFront shared nodes → (place : ℕ) → Contains (places_on nodes 0) place → HasFront shared (node_at nodes place)
front_has nodes is place h = (is.front, is.len, is.led place h)

-- what is told of the nodes is told of one that was read
pub told_read : (nodes : List Node) (sought : Sought) (place : ℕ) (node : Node) → AreTold nodes sought → Contains (places_on nodes 0) place
    → place < length nodes → node ≡ slice_index_or nodes place node → IsNodeTold node sought
told_read nodes sought place node told there within is =
    subst (λ (n : Node). IsNodeTold n sought) (sym (is ∙ read_at nodes place node within)) (told place there)
