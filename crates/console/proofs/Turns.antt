-- One record more, and the end of the input.
use Rattle.std.proofs.Common.{◌≡◌, ℕ, ◌-◌, List, [], ◌∷◌, ◌++◌, length, codes, sym, refl, ap, ◌∙◌, subst, append_assoc, arith, length-append}
use Rattle.std.proofs.lemmas.List.{flat_map_more, append-nil}
use Rattle.std.proofs.ByRecursion.{All-append}
use Rattle.console.specs.Records.{Record, mark, bytes_of, all_bytes, Fitting, NoRecord}
use Rattle.console.specs.Lines.{Reply, refused, in_record, line}
use Rattle.console.specs.Session.{State, Session, done, step, Step, Served, at_first, ending}
use Rattle.console.specs.Serving.{SoFar}

-- a session and one step more
session_more : {st last next : State} {rs : List Record} {out : List ℕ} (r : Record) (y : Reply) → Session st rs out last → Step last r y next
    → Session st (rs ++ (r ∷ [])) (out ++ line (mark r) y) next
session_more {st} {next = next} r y done s = subst (λ (l : List ℕ). Session st (r ∷ []) l next) (append-nil (line (mark r) y)) (step y s done)
session_more {st} {next = next} r y (step {r = q} {rs = qs} {out = out} z p t) s =
    subst (λ (l : List ℕ). Session st (q ∷ (qs ++ (r ∷ []))) l next) (sym (append_assoc (line (mark q) z) out (line (mark r) y))) (step z p (session_more r y t s))

pub none_yet : (input : List ℕ) (st : State) → st ≡ at_first → SoFar input input [] st
none_yet input st e = record { records = []; fitting = tt; whole = refl; session = subst (λ (x : State). Session at_first [] [] x) (sym e) done }

pub one_more : (input rest tail out after : List ℕ) (st next : State) (r : Record) (y : Reply) → SoFar input rest out st → Fitting r → rest ≡ bytes_of r ++ tail
    → Step st r y next → after ≡ out ++ line (mark r) y → SoFar input tail after next
one_more input rest tail out after st next r y s f e p w = record {
  records = s.records ++ (r ∷ []);
  fitting = All-append Fitting s.records (r ∷ []) s.fitting (f, tt);
  whole =
      s.whole ∙ ap (λ (l : List ℕ). all_bytes s.records ++ l) e ∙ sym (append_assoc (all_bytes s.records) (bytes_of r) tail)
      ∙ ap (λ (l : List ℕ). l ++ tail) (flat_map_more bytes_of [] s.records r);
  session = subst (λ (l : List ℕ). Session at_first (s.records ++ (r ∷ [])) l next) (sym w) (session_more r y s.session p);
}

-- where the reading ends
served_at : (input rest out after : List ℕ) (st : State) (s : SoFar input rest out st) → NoRecord rest → after ≡ out ++ ending (length (all_bytes s.records)) rest → Served input after
served_at input rest out after st s n e = record {
  records = s.records;
  rest = rest;
  lines = out;
  last = st;
  parsed = record { fitting = s.fitting; whole = s.whole; ended = n };
  session = s.session;
  whole = e;
}

pub ended_here : (input rest out after : List ℕ) (st : State) → SoFar input rest out st → NoRecord rest → length rest ≡ 0 → after ≡ out → Served input after
ended_here input [] out after st s n none e = served_at input [] out after st s n (e ∙ sym (append-nil out))
ended_here input (b ∷ bs) out after st s n none e = absurd (omega arith)

pub broken_off : (input rest out after : List ℕ) (st : State) (offset : ℕ) → SoFar input rest out st → NoRecord rest → (length rest ≡ 0 → ⊥) → offset ≡ length input - length rest
    → after ≡ out ++ line (codes "--") (refused in_record 15 (offset ∷ [])) → Served input after
broken_off input [] out after st offset s n some at e = absurd (some refl)
broken_off input (b ∷ bs) out after st offset s n some at e =
    let l : offset ≡ length (all_bytes s.records) = omega (arith, ap length s.whole, length-append (all_bytes s.records) (b ∷ bs)) in
    served_at input (b ∷ bs) out after st s n (e ∙ ap (λ (k : ℕ). out ++ ending k (b ∷ bs)) l)
