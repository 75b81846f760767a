use Rattle.std.proofs.Common.{◌≡◌, ℕ, ◌+◌, ◌*◌, ◌≤◌, Bool, List, [], ◌++◌, length, take, drop, refl, ap, ◌∙◌, ap₂, arith}
use Rattle.std.proofs.lemmas.List.{length-take, drop_all, append-nil}
use Rattle.round.specs.Answers.{words_of, up_to}
use Rattle.round.specs.Ranks.{ranked}
use Rattle.horn.proofs.Levels.{how_many_le}
use Rattle.round.proofs.Rolls.{words_more, count_more, ones_few, how_many_up_to}
use Rattle.round.proofs.propagation.scan.Ranked.write_roll.Goals as goal

pub loop-w-init : goal.loop-w-init
loop-w-init c = (refl, refl)

pub overflow_add-count : goal.overflow_add-count
overflow_add-count c =
    let f : ℕ → Bool = up_to c.args.self.now.clauses.conditions (ranked c.args.self.now.rank.now) in
    let few : length (take c.words_for.result c.args.words.now) ≤ c.words_for.result = omega (arith, length-take c.words_for.result c.args.words.now) in
    omega (arith, few, c.loop-w.invariant.0, how_many_le f (32 * c.loop-w.w), ones_few f (32 * c.loop-w.w + 1) c.word.result c.word.ensures)

pub loop-w-preserved : goal.loop-w-preserved
loop-w-preserved c =
    let f : ℕ → Bool = up_to c.args.self.now.clauses.conditions (ranked c.args.self.now.rank.now) in (
      count_more f c.loop-w.w c.loop-w.count c.word.result c.loop-w.invariant.0 c.word.ensures,
      words_more f (take c.words_for.result c.args.words.now) c.loop-w.roll c.loop-w.w c.word.result c.loop-w-test.true c.loop-w.invariant.1 c.word.ensures,
    )

pub overflow_cast-result : goal.overflow_cast-result
overflow_cast-result c =
    let f : ℕ → Bool = up_to c.args.self.now.clauses.conditions (ranked c.args.self.now.rank.now) in
    omega (arith, length-take c.words_for.result c.args.words.now, c.loop-w.invariant.0, how_many_le f (32 * c.loop-w.w))

pub returns : goal.returns
returns c =
    let f : ℕ → Bool = up_to c.args.self.now.clauses.conditions (ranked c.args.self.now.rank.now) in
    let words : List ℕ = c.args.words.now in
    let n : ℕ = c.words_for.result in
    let size : length (take n words) ≡ n = omega (arith, length-take n words, c.requires, c.words_for.ensures) in
    let w : c.loop-w.w ≡ n = omega (arith, size) in
    let all : drop c.loop-w.w (take n words) ≡ [] = drop_all c.loop-w.w (take n words) (omega (arith, size)) in
    let l : c.args.self.now.clauses.conditions ≤ 32 * c.loop-w.w = omega (arith, w, c.words_for.ensures) in
    record {
      count = c.loop-w.invariant.0 ∙ how_many_up_to (ranked c.args.self.now.rank.now) c.args.self.now.clauses.conditions (32 * c.loop-w.w) l;
      written = ap (λ (ws : List ℕ). ws ++ drop n words) (c.loop-w.invariant.1 ∙ ap (λ (ws : List ℕ). words_of f c.loop-w.w ++ ws) all ∙ append-nil (words_of f c.loop-w.w))
          ∙ ap₂ (λ (k m : ℕ). words_of f k ++ drop m words) (w ∙ c.words_for.ensures) c.words_for.ensures;
    }
