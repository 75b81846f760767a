-- Two sheets joined.
use Rattle.std.specs.Prelude.{◌≡◌, ℕ, ◌≤◌, max, ◌++◌, take, Some, None, Option}
use Rattle.std.proofs.Common.{arith, length-take}
use Rattle.std.proofs.ByRecursion.{All-append, All-take, All-weaker}
use Rattle.horn.specs.Sheets.{Sheet, Clause, Condition, LawfulClause, clause_at}
use Rattle.horn.specs.Sources.{LawfulSource}

-- The first one's clauses, then the second's, cut after 65,535, and the greater number of conditions.
abbrev pub joined : Sheet → Sheet → Sheet
joined a b = record { top = max a.top b.top; clauses = take 65535 (a.clauses ++ b.clauses) }

-- where clause i of a join comes from: it is the first sheet's, or the second one's clause k
abbrev pub ComesFrom : Sheet → Sheet → ℕ → Option ℕ → Type 0
ComesFrom a b i None = clause_at (joined a b) i ≡ clause_at a i
ComesFrom a b i (Some k) = clause_at (joined a b) i ≡ clause_at b k

-- a clause stays lawful on a sheet with more conditions
clause_grows : (s t : Sheet) → s.top ≤ t.top → (c : Clause) → LawfulClause s c → LawfulClause t c
clause_grows s t h c w = record {
  conditions = All-weaker (Condition s) (Condition t) (λ p v. (v.0, omega (arith, v.1))) c.body w.conditions;
  outcomes = λ q e. let v = w.outcomes q e in (v.0, omega (arith, v.1));
  different = w.different;
  something = w.something;
}

pub joined_lawful : (a b : Sheet) → LawfulSource a → LawfulSource b → LawfulSource (joined a b)
joined_lawful a b la lb =
    let j : Sheet = joined a b in
    let ha : a.top ≤ max a.top b.top = omega arith in
    let hb : b.top ≤ max a.top b.top = omega arith in
    let ta : a.top ≤ 1000 = la.few_conditions in
    let tb : b.top ≤ 1000 = lb.few_conditions in
    record {
      few_conditions = omega arith;
      few_clauses = omega (arith, length-take 65535 (a.clauses ++ b.clauses));
      lawful = All-take (LawfulClause j) 65535 (a.clauses ++ b.clauses)
          (All-append (LawfulClause j) a.clauses b.clauses
          (All-weaker (LawfulClause a) (LawfulClause j) (clause_grows a j ha) a.clauses la.lawful)
          (All-weaker (LawfulClause b) (LawfulClause j) (clause_grows b j hb) b.clauses lb.lawful));
    }
