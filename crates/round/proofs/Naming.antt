-- The ban that a refusal names.
use Rattle.std.proofs.Common.{◌≡◌, ℕ, zero, suc, ◌+◌, ◌<◌, true, List, [], ◌∷◌, ◌++◌, length, Some, sym, refl, ap, ◌∙◌, subst, subst₂, inl, inr, arith}
use Rattle.std.specs.List.{slice_get}
use Rattle.std.proofs.lemmas.List.{length_push}
use Rattle.std.proofs.ByRecursion.{All-weaker}
use Rattle.horn.specs.Sheets.{Clause, Sheet, Lawful, clause_at}
use Rattle.horn.specs.Pebblings.{Broken, InForce}
use Rattle.horn.specs.Levels.{in_force}
use Rattle.horn.specs.Bans.{lowest_broken, LowestBroken}
use Rattle.horn.specs.Claims.{added}
use Rattle.horn.specs.Lawfulness.{satisfiable}
use Rattle.horn.proofs.Tests.{none_some}
use Rattle.horn.proofs.Entailment.{broken_never, in_force_has, in_force_is}
use Rattle.horn.proofs.Places.{nth_append_left, nth_append_right}
use Rattle.horn.proofs.Growing.{growing, bans_add_nothing}
use Rattle.horn.proofs.Bans.{lowest_found}
use Rattle.horn.proofs.Lawfulness.{satisfiable_tested}
use Rattle.round.specs.Answers.{Answer, refused, Opens}
use Rattle.round.specs.Calls.{Filing, of_fact, of_ban, files, clause_of, Standing}
use Rattle.round.specs.Runs.{Answers, standing_sheet, next_sheet}
use Rattle.round.specs.Promise.{NamesLowest}
use Rattle.round.proofs.Choosing.{ok_refused}
use Rattle.round.proofs.Filings.{inside, unsatisfiable, pushed, lawful_push, Sound}

-- a ban of a condition in force is broken
pub ban_broken : (s : Sheet) → Lawful s → (p : ℕ) → in_force s p ≡ true → Broken (added s (clause_of (of_ban p) ∷ [])) (suc (length s.clauses))
ban_broken s w p f =
    let c : Clause = clause_of (of_ban p) in
    let e = in_force_is s w p f in
    let n : length s.clauses ≡ length s.clauses + 0 = omega arith in
    record {
      clause = c;
      numbers = ap (slice_get (s.clauses ++ (c ∷ []))) n ∙ nth_append_right s.clauses (c ∷ []) 0;
      ban = refl;
      in_force = ((e.0, (growing s (c ∷ []) p e.0 e.1).0), tt);
    }

-- and, after clauses that some choice satisfies, it is the only broken one
last_broken : (s : Sheet) → Lawful s → satisfiable s ≡ true → (p : ℕ) → Lawful (added s (clause_of (of_ban p) ∷ [])) → in_force s p ≡ true
    → LowestBroken (added s (clause_of (of_ban p) ∷ [])) (suc (length s.clauses))
last_broken s w k p l f = record { broken = ban_broken s w p f; lowest = low }
  where
    c : Clause
    c = clause_of (of_ban p)

    next : Sheet
    next = added s (c ∷ [])

    before : (q : ℕ) → InForce next q → InForce s q
    before q e = in_force_is s w q (sym (bans_add_nothing s (c ∷ []) (refl, tt) s.top q) ∙ in_force_has next l q e)

    earlier : (m : ℕ) → m < suc (length s.clauses) → (b : Broken next m) → clause_at next m ≡ Some b.clause → Broken s m
    earlier zero h b e = absurd (none_some e)
    earlier (suc m) h b e = record { clause = b.clause; numbers = sym (nth_append_left s.clauses (c ∷ []) m (omega arith)) ∙ e; ban = b.ban; in_force = All-weaker (InForce next) (InForce s) before b.clause.body b.in_force }

    low : (m : ℕ) → m < suc (length s.clauses) → Broken next m → ⊥
    low m h b = let v = (satisfiable_tested s w).0 k in broken_never s m (earlier m h b b.numbers) v.0 v.1

pub same_number : {i j : ℕ} {x y : List ℕ} → refused i x ≡ refused j y → i ≡ j
same_number e = cc

same_named : {i j : ℕ} {x y : List ℕ} → refused i x ≡ refused j y → x ≡ y
same_named e = cc

-- a filing that is turned back as contradictory names the lowest ban that would be broken
pub filing_names : (s : Sheet) (st : Standing) (f : Filing) (named : List ℕ) → Sound s st.filings → Answers s st (files f) (refused 8 named) → NamesLowest (next_sheet s st f) named
filing_names s st (of_fact p) named o (inl r) = let e = same_number r.1 in absurd (omega arith)
filing_names s st (of_fact p) named o (inr (x, inl r)) = let e = same_number r.1 in absurd (omega arith)
filing_names s st (of_fact p) named o (inr (x, inr (y, inl r))) =
    let next : Sheet = next_sheet s st (of_fact p) in
    let w : Lawful next = lawful_push s st.filings (of_fact p) (inside s p x) o.lawful in
    (lowest_broken next, same_named r.1, lowest_found next w (unsatisfiable next w r.0))
filing_names s st (of_fact p) named o (inr (x, inr (y, inr r))) = absurd (ok_refused (sym r.1))
filing_names s st (of_ban p) named o (inl r) = let e = same_number r.1 in absurd (omega arith)
filing_names s st (of_ban p) named o (inr (x, inl r)) = let e = same_number r.1 in absurd (omega arith)
filing_names s st (of_ban p) named o (inr (x, inr (y, inl r))) =
    let now : Sheet = standing_sheet s st in
    let next : Sheet = next_sheet s st (of_ban p) in
    let e : next ≡ added now (clause_of (of_ban p) ∷ []) = pushed s st.filings (of_ban p) in
    let w : Lawful next = lawful_push s st.filings (of_ban p) (inside s p x) o.lawful in
    let last : length next.clauses ≡ suc (length now.clauses) =
    ap (λ (t : Sheet). length t.clauses) e ∙ (let k = length_push now.clauses (clause_of (of_ban p)) in omega arith) in
    let lowest : LowestBroken (added now (clause_of (of_ban p) ∷ [])) (suc (length now.clauses)) = last_broken now o.lawful o.satisfied p (subst Lawful e w) r.0 in
    (length next.clauses, same_named r.1, subst₂ LowestBroken (sym e) (sym last) lowest)
filing_names s st (of_ban p) named o (inr (x, inr (y, inr r))) = absurd (ok_refused (sym r.1))

-- so does an opening
pub opening_names : (s : Sheet) → Lawful s → (a : Answer) → Opens s a → (named : List ℕ) → a ≡ refused 8 named → NamesLowest s named
opening_names s w a (inl r) named e = let k = same_number (sym r.1 ∙ e) in absurd (omega arith)
opening_names s w a (inr (x, inl r)) named e = (lowest_broken s, same_named (sym e ∙ r.1), lowest_found s w (unsatisfiable s w r.0))
opening_names s w a (inr (x, inr r)) named e = absurd (ok_refused (sym r.1 ∙ e))
