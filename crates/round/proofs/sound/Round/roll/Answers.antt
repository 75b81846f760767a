use Rattle.std.proofs.Common.{◌≡◌, ℕ, ◌≤◌, List, [], ◌∷◌, ◌++◌, length, take, drop, sym, refl, ap, ◌∙◌, subst, arith}
use Rattle.horn.specs.Sheets.{Sheet}
use Rattle.horn.specs.Levels.{in_force, how_many}
use Rattle.round.specs.Answers.{Rolls, ok, words_for, roll_words}
use Rattle.round.specs.Ranks.{Ranks, ranked}
use Rattle.round.specs.Good.{state_sheet}
use Rattle.round.specs.Sound.{round_is}
use Rattle.round.proofs.Openings.{lendable}
use Rattle.round.proofs.Replying.{count_in_force, roll_in_force, rolls_ok}
use Rattle.round.proofs.sound.Round.roll.Goals as goal

pub rows-requires : goal.rows-requires
rows-requires c = lendable c.args.self.now.state c.args.self.now.ok.stocked

pub write_roll-requires : goal.write_roll-requires
write_roll-requires c = let e = ap (λ (s : Sheet). s.top) c.rows.ensures in omega arith

pub returns : goal.returns
returns c =
    let st = c.args.self.now.state in
    let g = c.args.self.now.ok in
    let s : Sheet = state_sheet st in
    let r : Ranks s c.deref.result.now = subst (Ranks s) (sym c.deref.ensures) g.ranked in
    let rest : List ℕ = drop (words_for s.top) c.args.words.now in
    let top : c.rows.result.conditions ≡ s.top = ap (λ (x : Sheet). x.top) c.rows.ensures in
    let n = c.write_roll.ensures.count ∙ ap (how_many (ranked c.deref.result.now)) top ∙ count_in_force s c.deref.result.now r in
    let b : c.write_roll.new.words ≡ roll_words (in_force s) s.top ++ rest =
    c.write_roll.ensures.written ∙ ap (λ (k : ℕ). roll_words (ranked c.deref.result.now) k ++ drop (words_for k) c.args.words.now) top ∙ ap (λ (ws : List ℕ). ws ++ rest) (roll_in_force s c.deref.result.now r) in
    let space : words_for s.top ≤ length c.args.words.now = omega arith in
    let a = rolls_ok s c.write_roll.result (length c.args.words.now) c.write_roll.new.words rest space n b in
    let back = sym (round_is c.args.self.now) in
    record {
      answer = a;
      step = record {
        answers = subst (λ (x : Sheet). Rolls x (length c.args.words.now) (ok (c.write_roll.result ∷ []) (take (words_for s.top) c.write_roll.new.words))) back a;
        sheet = refl;
        stands = refl;
      };
      buffer = b;
    }
