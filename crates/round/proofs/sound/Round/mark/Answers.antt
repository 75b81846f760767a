use Rattle.std.proofs.Common.{◌≡◌, ℕ, suc, ◌-◌, List, [], ◌∷◌, ◌++◌, length, vec_items, sym, refl, ap, ◌∙◌, inr, arith}
use Rattle.round.specs.Answers.{ok}
use Rattle.round.specs.Calls.{Standing}
use Rattle.round.specs.Good.{state_standing}
use Rattle.round.proofs.Positions.{filings_count, kept_marked}
use Rattle.round.proofs.sound.Round.mark.Goals as goal

pub invariant_of-self : goal.invariant_of-self
invariant_of-self c =
    let st = c.args.self.now.state in
    let g = c.args.self.now.ok in
    let s = g.stocked in
    let items : vec_items c.push_reserved.new.self ≡ vec_items st.marks ++ (st.tables.outcomes.len - st.opened) ∷ [] = c.push_reserved.ensures.items ∙ ap (λ (k : ℕ). vec_items st.marks ++ (k - st.opened) ∷ []) c.clauses.ensures in
    record {
      ok = record {
        stocked = record {
          usable = record { mark_room = omega (arith, c.push_reserved.ensures.capacity, s.usable.mark_room) };
          filled = s.filled;
          few_conditions = s.few_conditions;
          lawfully = s.lawfully;
        };
        kept = kept_marked st _ refl refl items (omega (arith, c.if-len-ge-MAX_MARKS.false, c.len.ensures)) g.kept;
        ranked = g.ranked;
        unbroken = g.unbroken;
      };
    }

pub returns : goal.returns
returns c =
    let st = c.args.self.now.state in
    let items : vec_items c.push_reserved.new.self ≡ vec_items st.marks ++ (st.tables.outcomes.len - st.opened) ∷ [] = c.push_reserved.ensures.items ∙ ap (λ (k : ℕ). vec_items st.marks ++ (k - st.opened) ∷ []) c.clauses.ensures in
    let number : c.len-2.result ≡ suc (length (vec_items st.marks)) = omega (arith, c.len-2.ensures, c.push_reserved.ensures.len, st.marks.ok.0) in
    record {
      answers = inr (λ h. omega (arith, c.if-len-ge-MAX_MARKS.false, c.len.ensures, st.marks.ok.0), ap (λ (k : ℕ). ok (k ∷ []) []) number);
      sheet = refl;
      stands = ap {B = Standing} (λ (ms : List ℕ). record { filings = (state_standing st).filings; marks = ms }) (items ∙ ap (λ (k : ℕ). vec_items st.marks ++ k ∷ []) (sym (filings_count st)));
    }
