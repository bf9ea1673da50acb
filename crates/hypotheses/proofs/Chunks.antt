-- Hypotheses two numbers at a time, as std cuts them: `chunks` gives a last name alone, `chunks_exact` leaves it out.
use Prim.Native.Nat.{ℕ, zero, suc, ◌<◌, min}
use mathlib.Core.Path.{◌≡◌, refl, sym, ap, ◌∙◌}
use mathlib.Core.Bool.{Bool, true, false, cond, ◌||◌, ◌&&◌}
use mathlib.Core.List.{List, [], ◌∷◌, ◌++◌}
use native.Mathlib.Omega.{arith}
use lib.ListN.{length, get_or}
use lib.Dec.{leb, eqb}
use borrow.Author.Tests.{leb-false}
use Rattle.std.specs.List.{list_any, list_all}
use Rattle.std.specs.Slice.Iter.{chunks_rest, chunks_size, chunks_steps, chunks_exact_rest, chunks_exact_size, chunks_exact_steps}
use Rattle.std.proofs.lemmas.Iterator.{YieldsList}
use Rattle.std.proofs.lemmas.Iterator.Splits.{YieldsList-from_shown_while}
use Rattle.definitions.specs.Sheet.{name_of}
use Rattle.definitions.specs.CheckingRules.{Context, bind}
use Rattle.definitions.specs.Sound.{is_quantifier_free}
use Rattle.definitions.specs.CheckAnswers.{all_quantifier_free, named_prop, assumed}
use Rattle.std.proofs.lemmas.Bool.{or_parts}
use Rattle.hypotheses.specs.Pairs.{out_of}

-- ---- all chunks, for 31

unfoldable pub chunked : List ℕ → List (List ℕ)
chunked [] = []
chunked (x ∷ []) = (x ∷ []) ∷ []
chunked (x ∷ p ∷ hs) = (x ∷ p ∷ []) ∷ chunked hs

first_chunk : (chunk left : List ℕ) → length chunk ≡ min 2 (length (chunk ++ left)) → 0 < length (chunk ++ left)
    → chunked (chunk ++ left) ≡ chunk ∷ chunked left
unfolding chunked
first_chunk [] [] s l = absurd (omega arith)
first_chunk [] (y ∷ left) s l = absurd (omega arith)
first_chunk (x ∷ []) [] s l = refl
first_chunk (x ∷ []) (y ∷ left) s l = absurd (omega arith)
first_chunk (x ∷ y ∷ []) left s l = refl
first_chunk (x ∷ y ∷ z ∷ chunk) left s l = absurd (omega arith)

no_chunk : (l : List ℕ) → length l ≡ 0 → length (chunked l) ≡ 0
unfolding chunked
no_chunk [] e = refl
no_chunk (x ∷ l) e = absurd (omega arith)

pub chunks_give : {s : _} (hs : List ℕ) → chunks_rest s ≡ hs → chunks_size s ≡ 2 → YieldsList (chunks_steps {A = ℕ}) (λ x. x.now) s (chunked hs)
chunks_give {s} hs is two = rw (sym is) (YieldsList-from_shown_while (chunks_steps {A = ℕ}) (λ x. x.now) (λ t. chunked (chunks_rest t)) (λ t. chunks_size t ≡ 2)
    (λ t u h k. no_chunk _ k.1.0)
    (λ t x u h k.
    let is : chunks_rest t ≡ x.now ++ chunks_rest u = k.1.0 in
    let size : length x.now ≡ min 2 (length (x.now ++ chunks_rest u)) = k.1.1 ∙ rw (h, is) refl in
    (k.0 ∙ h, ap chunked is ∙ first_chunk x.now (chunks_rest u) size (rw is at k.1.2)))
    s two)

-- a chunk is out where one of its numbers is, or its name stands alone
unfoldable pub chunk_out : ℕ → ℕ → List ℕ → Bool
chunk_out n p chunk = cond (eqb (length chunk) 2) (leb n (get_or chunk 0 0) || leb p (get_or chunk 1 0)) true

or_assoc : (a b c : Bool) → a || (b || c) ≡ (a || b) || c
or_assoc true b c = refl
or_assoc false b c = refl

pub out_any : (n p : ℕ) (hs : List ℕ) → out_of n p hs ≡ list_any (chunk_out n p) (chunked hs)
unfolding out_of chunked chunk_out
out_any n p [] = refl
out_any n p (x ∷ []) = refl
out_any n p (x ∷ q ∷ hs) = rw (out_any n p hs) (or_assoc (leb n x) (leb p q) (list_any (chunk_out n p) (chunked hs)))

-- ---- the whole chunks, for 22

unfoldable pub paired : List ℕ → List (List ℕ)
paired [] = []
paired (x ∷ []) = []
paired (x ∷ p ∷ hs) = (x ∷ p ∷ []) ∷ paired hs

first_pair : (pair left : List ℕ) → length pair ≡ 2 → paired (pair ++ left) ≡ pair ∷ paired left
unfolding paired
first_pair [] left s = absurd (omega arith)
first_pair (x ∷ []) left s = absurd (omega arith)
first_pair (x ∷ y ∷ []) left s = refl
first_pair (x ∷ y ∷ z ∷ pair) left s = absurd (omega arith)

no_pair : (l : List ℕ) → length l < 2 → length (paired l) ≡ 0
unfolding paired
no_pair [] e = refl
no_pair (x ∷ []) e = refl
no_pair (x ∷ y ∷ l) e = absurd (omega arith)

pub pairs_give : {s : _} (hs : List ℕ) → chunks_exact_rest s ≡ hs → chunks_exact_size s ≡ 2 → YieldsList (chunks_exact_steps {A = ℕ}) (λ x. x.now) s (paired hs)
pairs_give {s} hs is two = rw (sym is) (YieldsList-from_shown_while (chunks_exact_steps {A = ℕ}) (λ x. x.now) (λ t. paired (chunks_exact_rest t)) (λ t. chunks_exact_size t ≡ 2)
    (λ t u h k. no_pair _ (rw h at k.1.0))
    (λ t x u h k. (k.0 ∙ h, ap paired k.1.0 ∙ first_pair x.now (chunks_exact_rest u) (k.1.1 ∙ h)))
    s two)

-- where none is out, each pair has a proposition that is in
pub record PairIn (p : ℕ) (pair : List ℕ) : Type 0 where
  pub size : length pair ≡ 2
  pub proposition : get_or pair 1 0 < p

pub pair_in : (n p : ℕ) (hs : List ℕ) → out_of n p hs ≡ false → (pair : List ℕ) (k : ℕ) → k < length (paired hs) → pair ≡ get_or (paired hs) k pair → PairIn p pair
unfolding out_of paired
pair_in n p [] e pair k l is = absurd (omega arith)
pair_in n p (x ∷ []) e pair k l is = absurd (omega arith)
pair_in n p (x ∷ q ∷ hs) e pair zero l is = rw is (record { size = refl; proposition = leb-false p q (or_parts _ _ (or_parts _ _ e).1).0 })
pair_in n p (x ∷ q ∷ hs) e pair (suc k) l is = pair_in n p hs (or_parts _ _ (or_parts _ _ e).1).1 pair k (omega arith) is

module _ (s : List ℕ) where
  -- the proposition of a pair is free
  unfoldable pub pair_free : List ℕ → Bool
  pair_free pair = is_quantifier_free (named_prop s (get_or pair 1 0))

  and_true : (a : Bool) → a ≡ a && true
  and_true true = refl
  and_true false = refl

  and_turn : (a b c : Bool) → (a && b) && c ≡ b && (a && c)
  and_turn true true c = refl
  and_turn true false c = refl
  and_turn false true c = refl
  and_turn false false c = refl

  all_with : (hs : List ℕ) (g : Context) → all_quantifier_free (assumed s hs g) ≡ all_quantifier_free g && list_all pair_free (paired hs)
  unfolding assumed all_quantifier_free paired pair_free
  all_with [] g = and_true (all_quantifier_free g)
  all_with (x ∷ []) g = and_true (all_quantifier_free g)
  all_with (x ∷ p ∷ hs) g = all_with hs (bind (name_of s x) (named_prop s p) g)
      ∙ and_turn (is_quantifier_free (named_prop s p)) (all_quantifier_free g) (list_all pair_free (paired hs))

  pub free_all : (hs : List ℕ) → all_quantifier_free (assumed s hs []) ≡ list_all pair_free (paired hs)
  unfolding all_quantifier_free
  free_all hs = all_with hs []
