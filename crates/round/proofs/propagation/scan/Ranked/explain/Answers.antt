use Rattle.std.proofs.Common.{◌≡◌, ℕ, ◌<◌, true, List, ◌++◌, length, drop, refl, ap, ◌∙◌, arith}
use Rattle.horn.specs.Sheets.{Sheet}
use Rattle.horn.specs.Levels.{in_force, rank, explanation}
use Rattle.round.specs.Rows.{at}
use Rattle.round.specs.Lending.{lent_sheet}
use Rattle.round.specs.Needed.{by_mark}
use Rattle.round.proofs.Reasons.{rank_here, ranked_force}
use Rattle.round.proofs.Listing.{steps_count, steps_size, steps_written, explains_short, explains_ok}
use Rattle.round.proofs.propagation.scan.Ranked.explain.Goals as goal

pub returns-then-steps-count : goal.returns-then-steps-count
returns-then-steps-count c =
    let s : Sheet = lent_sheet c.args.self.now.clauses in
    let q : ℕ = c.args.q in
    let low : 0 < q = omega arith in
    let h : in_force s q ≡ true = ranked_force s c.args.self.now.rank.now c.args.self.now.ranks q low (omega arith) in
    record {
      answer = explains_short s q (length c.args.steps.now) low (omega arith) h
          (omega (arith, c.count_marked-count.ensures, steps_size s q h c.mark_needed.new.marks c.mark_needed.ensures, c.if-steps-count.true));
      buffer = refl;
    }

pub write_steps-requires : goal.write_steps-requires
write_steps-requires c =
    let s : Sheet = lent_sheet c.args.self.now.clauses in
    let q : ℕ = c.args.q in
    let low : 0 < q = omega arith in
    let h : in_force s q ≡ true = ranked_force s c.args.self.now.rank.now c.args.self.now.ranks q low (omega arith) in
    let marks : List ℕ = c.mark_needed.new.marks in
    let r = ap (λ (x : ℕ). length (by_mark marks c.args.self.now.clauses.conditions x)) (rank_here s c.args.self.now.rank.now c.args.self.now.ranks q low h) in
    record {
      few = c.args.self.now.clauses.sheet.few_conditions;
      room = omega (arith, r, c.count_marked-count.ensures, steps_count s q h marks c.mark_needed.ensures, c.if-steps-count.false);
    }

pub returns : goal.returns
returns c =
    let s : Sheet = lent_sheet c.args.self.now.clauses in
    let q : ℕ = c.args.q in
    let low : 0 < q = omega arith in
    let h : in_force s q ≡ true = ranked_force s c.args.self.now.rank.now c.args.self.now.ranks q low (omega arith) in
    let marks : List ℕ = c.mark_needed.new.marks in
    let n : ℕ = c.count_marked-count.result in
    let r : at c.args.self.now.rank.now q ≡ rank s q = rank_here s c.args.self.now.rank.now c.args.self.now.ranks q low h in
    let size : n ≡ length (explanation s q) = c.count_marked-count.ensures ∙ steps_size s q h marks c.mark_needed.ensures in
    let written : c.write_steps.new.steps ≡ explanation s q ++ drop n c.args.steps.now =
    steps_written s q h marks c.mark_needed.ensures c.choose.new.chosen c.args.steps.now c.write_steps.new.steps (at c.args.self.now.rank.now q) n
    c.choose.ensures r c.count_marked-count.ensures c.write_steps.ensures in
    record {
      answer = explains_ok s q (length c.args.steps.now) low (omega arith) h (omega (arith, size, c.if-steps-count.false)) (at c.args.self.now.rank.now q) n c.args.steps.now c.write_steps.new.steps r size written;
      buffer = written;
    }
