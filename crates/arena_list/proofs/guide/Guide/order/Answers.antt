-- The leads tell, and where they are the same the lengths of keys within the extent.
use Rattle.std.proofs.Common.{◌≡◌, inl, inr, ℕ, ◌+◌, ◌-◌, ◌<◌, ◌≤◌, Option, Some, None, length, drop, nat_cmp, sym, ap, ap₂, ◌∙◌, subst, arith}
use Rattle.std.proofs.lemmas.Bool.{cases_lt}
use Rattle.arena_list.specs.Leads.{IsLengthInLead}
use Rattle.arena_list.specs.Nodes.{node_at, key_of}
use Rattle.arena_list.proofs.Orders.{greater_numbers}
use Rattle.arena_list.proofs.Fronts.{behind_front, same_more}
use Rattle.arena_list.proofs.guide.Guide.order.Goals as goal

pub returns-then-self-sought : goal.returns-then-self-sought
returns-then-self-sought c =
    let node = node_at c.args.nodes.now c.args.self.now.place in
    let behind = behind_front c.args.sought.now.shared node c.requires.front in
    sym (c.requires.told.less (omega (arith, behind.0, c.requires.tells.lead, c.if-self-sought.true)))

pub returns-then-self-sought-2 : goal.returns-then-self-sought-2
returns-then-self-sought-2 c =
    let node = node_at c.args.nodes.now c.args.self.now.place in
    let behind = behind_front c.args.sought.now.shared node c.requires.front in
    sym (c.requires.told.greater (omega (arith, behind.0, c.requires.tells.lead, c.if-self-sought-2.true)))

pub returns-in-Some : goal.returns-in-Some
returns-in-Some c =
    let sought = c.args.sought.now in
    let node = node_at c.args.nodes.now c.args.self.now.place in
    let own = key_of node.held in
    let key = sought.key.now in
    let behind = behind_front sought.shared node c.requires.front in
    let same : node.lead ≡ sought.lead = omega (arith, behind.0, c.requires.tells.lead, c.if-self-sought.false, c.if-self-sought-2.false) in
    let len : IsLengthInLead (Some c.in-Some.len) (drop sought.shared own) =
    subst (λ (o : Option ℕ). IsLengthInLead o (drop sought.shared own)) c.in-Some.is c.requires.tells.len in
    let begins = sought.begins c.if-sought-gt0.true in
    let own_len : length own ≡ sought.shared + c.in-Some.len = omega (arith, behind.1, len.0) in
    let key_len : length key ≡ sought.shared + (length key - sought.shared) = omega (arith, begins.1) in
    let short = inl (omega (arith, own_len, len.1, begins.0)) in
    c.cmp.ensures ∙ ap (λ (n : ℕ). nat_cmp n (length key - sought.shared)) c.from.ensures
    ∙ same_more sought.shared c.in-Some.len (length key - sought.shared)
    ∙ ap₂ (λ (m n : ℕ). nat_cmp m n) (sym own_len) (sym key_len) ∙ sym (c.requires.told.same same short)

pub returns-in-None : goal.returns-in-None
returns-in-None c =
    let sought = c.args.sought.now in
    let node = node_at c.args.nodes.now c.args.self.now.place in
    let own = key_of node.held in
    let key = sought.key.now in
    let behind = behind_front sought.shared node c.requires.front in
    let same : node.lead ≡ sought.lead = omega (arith, behind.0, c.requires.tells.lead, c.if-self-sought.false, c.if-self-sought-2.false) in
    let long : IsLengthInLead None (drop sought.shared own) =
    subst (λ (o : Option ℕ). IsLengthInLead o (drop sought.shared own)) c.in-None.is c.requires.tells.len in
    let short : length key ≤ sought.extent = c.if-sought.true in
    let longer : length key < length own = elim (cases_lt 0 sought.extent) [
      | inl some ↦ omega (arith, short, long, behind.1, (sought.begins some).0)
      | inr none ↦ omega (arith, short, long, behind.1, none)
    ] in
    sym (c.requires.told.same same (inr short) ∙ greater_numbers (length own) (length key) longer)
