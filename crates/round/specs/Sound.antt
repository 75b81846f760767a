-- The sheet of a round, and what stands.
use Rattle.std.proofs.Common.{arith, ap, ap₂, ◌∙◌}
use Rattle.std.specs.Prelude.{◌≡◌, ℕ, ◌+◌, true, List, [], ◌∷◌, ◌++◌, map, length, take, drop, Some, None, vec_items, Option, ◌==◌, refl}
use Rattle.std.proofs.lemmas.List.FromFn.{length-map-range_with_len}
use Rattle.std.proofs.lemmas.List.{take-append-drop}
use Rattle.std.proofs.lemmas.Bool.{and_parts, eqb-true}
use Rattle.horn.specs.Sheets.{Sheet, Clause, Choice, Satisfies, all_of, outcome_size}
use Rattle.horn.specs.Sources.{LawfulSource}
use Rattle.horn.proofs.Lawfulness.{lawful_tested}
use Rattle.round.specs.Calls.{clause_of}
use Rattle.round.specs.Runs.{Position, standing_sheet}
use Rattle.round.specs.Promise.{Promise}
use Rattle.round.specs.Rows.{clause_in}
use Rattle.round.specs.Held.{held_rows}
use Rattle.round.specs.Good.{Stocked, Kept, state_sheet, is_filing, filing_with, filing_of, opened_sheet, state_standing, state_position}
use Rattle.round.specs.declared.state.State.{State}
use Rattle.round.specs.declared.sound.Round.{Round}

-- what a round holds, as its calls see it
abbrev pub position : Round → Position
position r = state_position r.state

-- the clauses and conditions that a round holds
abbrev pub round_sheet : Round → Sheet
round_sheet r = state_sheet r.state

restored : (b : List ℕ) (o : Option ℕ) → (length b + outcome_size o == 1) ≡ true → clause_of (filing_with b o) ≡ record { body = b; outcome = o }
restored [] None e = let k : ◌≡◌ {A = ℕ} 0 1 = eqb-true 0 1 e in absurd (omega arith)
restored (p ∷ []) None e = refl
restored (p ∷ (q ∷ b)) None e = let k = eqb-true (length (p ∷ (q ∷ b)) + 0) 1 e in absurd (omega arith)
restored [] (Some q) e = refl
restored (p ∷ b) (Some q) e = let k = eqb-true (length (p ∷ b) + 1) 1 e in absurd (omega arith)

all_restored : (cs : List Clause) → all_of is_filing cs ≡ true → map clause_of (map filing_of cs) ≡ cs
all_restored [] e = refl
all_restored (c ∷ cs) e = let k = and_parts (is_filing c) (all_of is_filing cs) e in ap₂ (λ (x : Clause) (xs : List Clause). x ∷ xs) (restored c.body c.outcome k.0) (all_restored cs k.1)

-- the tables hold the sheet with the standing filings
pub position_sheet : (st : State) → Kept st → standing_sheet (opened_sheet st) (state_standing st) ≡ state_sheet st
position_sheet st k =
    let cs : List Clause = (state_sheet st).clauses in
    ap {B = Sheet} (λ (xs : List Clause). record { top = st.tables.conditions; clauses = xs })
    (ap (λ (xs : List Clause). take st.opened cs ++ xs) (all_restored (drop st.opened cs) k.filings) ∙ take-append-drop st.opened cs)

pub round_is : (r : Round) → standing_sheet (position r).sheet (position r).standing ≡ round_sheet r
round_is r = position_sheet r.state r.ok.kept

state_lawful : (st : State) → Stocked st → LawfulSource (state_sheet st)
state_lawful st g =
    let n = length-map-range_with_len (clause_in (held_rows st.tables)) 0 (length (vec_items st.tables.outcomes)) in
    record {
      few_conditions = g.few_conditions;
      few_clauses = omega (arith, n, st.tables.outcomes.ok.0, st.tables.few.0);
      lawful = (lawful_tested (state_sheet st)).0 g.lawfully;
    }

pub round_lawful : (r : Round) → LawfulSource (round_sheet r)
round_lawful r = state_lawful r.state r.ok.stocked

-- No round exists whose clauses no choice satisfies.
abbrev pub Satisfied : Type 0
Satisfied = (r : Round) → (v : Choice (round_sheet r)) × Satisfies (round_sheet r) v

-- The clauses of a round, which it has as a source, are those of the sheet that it was opened on, then its filings.
abbrev pub FilingsHeld : Type 0
FilingsHeld = (r : Round) → round_sheet r ≡ standing_sheet (position r).sheet (position r).standing

-- Every round keeps the promise of the sheet that it was opened on.
abbrev pub PromiseKept : Type 0
PromiseKept = (r : Round) → Promise (position r).sheet
