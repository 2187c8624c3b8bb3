-- A key that begins with the front is told by what follows it, and another one goes before or after all that begin so.
use Rattle.std.proofs.Common.{rules, ◌≡◌, ◌≢◌, inl, inr, true, false, length, take, sym, ap, ◌∙◌, arith, Equal, Less, Greater, nat_cmp}
use Rattle.std.specs.Str.{bytes_eq}
use Rattle.std.specs.Cmp.Lexicographic.{slice_cmp}
use Rattle.std.proofs.lemmas.Slice.Eq.{bytes_eq-Decides}
use Rattle.arena_list.specs.Leads.{lead_of, AreBytes}
use Rattle.arena_list.proofs.Fronts.{told_within, told_before, told_after}
use Rattle.arena_list.proofs.front.lead_behind.Goals as goal

pub returns-in-Some-clause-tells : goal.returns-in-Some-clause-tells
returns-in-Some-clause-tells c node led =
    let key = c.args.key.now in
    let front = c.args.front.now in
    let bytes : AreBytes key = search rules in
    let begins : take (length front) key ≡ front = (bytes_eq-Decides (take (length front) key) front).0 c.in-Some.ensures.cases.0 in
    told_within front node key led c.lead.result begins bytes (c.lead.ensures.number ∙ ap lead_of c.in-Some.ensures.cases.1)

pub returns-in-Less-clause-tells : goal.returns-in-Less-clause-tells
returns-in-Less-clause-tells c node led =
    told_before c.args.front.now node c.args.key.now led (sym c.cmp.ensures ∙ c.in-Less.is)

pub returns-in-Equal : goal.returns-in-Equal
returns-in-Equal c = record {
  begins = λ some. absurd (omega (arith, some));
  tells = λ node led. told_after c.args.front.now node c.args.key.now led apart more;
}
  where
    apart : take (length c.args.front.now) c.args.key.now ≢ c.args.front.now
    apart same =
        let is : bytes_eq (take (length c.args.front.now) c.args.key.now) c.args.front.now ≡ true =
        (bytes_eq-Decides (take (length c.args.front.now) c.args.key.now) c.args.front.now).1 same in
        let not : bytes_eq (take (length c.args.front.now) c.args.key.now) c.args.front.now ≡ false = c.in-None.ensures.cases in
        absurd cc

    more : slice_cmp nat_cmp c.args.key.now c.args.front.now ≢ Less
    more less = elim c.in-Equal.is [
      | inl is ↦ let e : Less ≡ Equal = sym less ∙ sym c.cmp.ensures ∙ is in absurd cc
      | inr is ↦ let e : Less ≡ Greater = sym less ∙ sym c.cmp.ensures ∙ is in absurd cc
    ]
