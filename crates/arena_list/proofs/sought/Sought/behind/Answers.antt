-- The key begins with its own first bytes.
use Rattle.std.proofs.Common.{rules, ◌≡◌, ℕ, ◌+◌, length, take, drop, sym, ap, ◌∙◌, subst}
use Rattle.std.proofs.lemmas.List.{length-take-le}
use Rattle.arena_list.specs.Leads.{lead_of, LeadsTell, AreBytes}
use Rattle.arena_list.specs.Nodes.{key_of, node_at}
use Rattle.arena_list.proofs.Fronts.{told_within}
use Rattle.arena_list.proofs.sought.Sought.behind.Goals as goal

pub returns-clause-told : goal.returns-clause-told
returns-clause-told c nodes led place h =
    let key = c.args.key.now in
    let shared = c.args.shared in
    let node = node_at nodes place in
    let bytes : AreBytes key = search rules in
    let len : length (take shared key) ≡ shared = length-take-le shared key c.requires in
    subst (λ (n : ℕ). LeadsTell (key_of node.held) node.lead key c.lead.result (n + 8)) len
    (told_within (take shared key) node key (led place h) c.lead.result (ap (λ (n : ℕ). take n key) len) bytes
    (c.lead.ensures.number ∙ ap lead_of c.rest_of.ensures ∙ ap (λ (n : ℕ). lead_of (drop n key)) (sym len)))
