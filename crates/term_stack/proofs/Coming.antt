-- What the machine turns to is followed reading by reading; and where it cannot go on within the limits there is no term.
use Prim.Native.Nat.{ℕ}
use mathlib.Core.Path.{◌≡◌, sym, ap, ◌∙◌}
use mathlib.Core.Bool.{Bool, true, false}
use Rattle.std.specs.Prelude.{Option, None, Some}
use mathlib.Core.List.{List}
use Rattle.definitions.specs.Outcome.{refuse}
use Rattle.definitions.specs.Name.{Name}
use Rattle.definitions.specs.Code.{Read}
use Rattle.definitions.specs.TermReader.{same, if_read, read_answer}
use Rattle.definitions.proofs.Readings.{given}
use Rattle.reading_laws.specs.TermMachine.{State, and_then, if_due, onward}
use Rattle.reading_laws.proofs.OnTheWay.{Reached, reached_next, Fits, stuck_refused, unturned_refused}
use Rattle.reading_laws.proofs.Turns.{Next, next_some}
use Rattle.term_stack.specs.Using.{Comes}

module _ {types : List Name} {text : List ℕ} where
  -- by an equation
  pub comes_as : {x y : Option State} → Comes types text x → x ≡ y → Comes types text y
  comes_as c e = record { from = c.from; reached = c.reached; turns = c.turns ∙ ap onward e }

  -- the next state is reached
  pub arrives : {τ : State} → Comes types text (Some τ) → Reached types text τ
  arrives c = reached_next types text c.reached c.turns

  -- there is no next state
  pub fails : {x : Option State} → Comes types text x → x ≡ None → read_answer types text ≡ refuse 20 0
  fails c e = stuck_refused types text c.reached (c.turns ∙ ap onward e)

  -- no next state is within the limits
  pub unfit : {x : Option State} → Comes types text x → Next (λ τ. Fits τ → ⊥) x → read_answer types text ≡ refuse 20 0
  unfit {x} c no-fit =
      unturned_refused types text c.reached x c.turns
      (λ τ e f. next_some (λ τ. Fits τ → ⊥) x τ (sym c.turns ∙ e) no-fit f)

  module _ {A : Type 0} where
    pub goes_on : (r : Option (Read A)) (next : A → List ℕ → Option State) (a : A) (rest : List ℕ) → Comes types text (and_then r next) → r ≡ given a rest
        → Comes types text (next a rest)
    unfolding and_then
    goes_on r next a rest c e = comes_as c (rw e)

    pub ends_here : (r : Option (Read A)) (next : A → List ℕ → Option State) → Comes types text (and_then r next) → r ≡ None → read_answer types text ≡ refuse 20 0
    unfolding and_then
    ends_here r next c e = fails c (rw e)

    pub reads_on : (r : Option (Read A)) (then : A → List ℕ → Option State) (else : Option State) (a : A) (rest : List ℕ) → Comes types text (if_read r then else)
        → r ≡ given a rest → Comes types text (then a rest)
    unfolding if_read
    reads_on r then else a rest c e = comes_as c (rw e)

    pub reads_else : (r : Option (Read A)) (then : A → List ℕ → Option State) (else : Option State) → Comes types text (if_read r then else)
        → r ≡ None → Comes types text else
    unfolding if_read
    reads_else r then else c e = comes_as c (rw e)

  pub as_due : (own asked : Bool) (x : Option State) → Comes types text (if_due own asked x) → same own asked ≡ true → Comes types text x
  unfolding if_due
  as_due own asked x c e = comes_as c (rw e)

  pub not_due : (own asked : Bool) (x : Option State) → Comes types text (if_due own asked x) → same own asked ≡ false → read_answer types text ≡ refuse 20 0
  unfolding if_due
  not_due own asked x c e = fails c (rw e)
