-- Ticket 8: the sorted list is the same collection, each once, in ascending order; and there is only one such list.
use mathlib.Core.Path.{◌≡◌, refl, sym, ◌∙◌, ap, subst}
use mathlib.Core.Logic.{◌⊎◌, inl, inr}
use mathlib.Core.Bool.{Bool, true, false, cond}
use mathlib.Core.List.{List, [], ◌∷◌}
use native.Mathlib.Omega.{arith}
use Rattle.std.specs.declared.cmp.Ordering.{Ordering}
use Rattle.std.specs.declared.cmp.Ordering.TheVariants.{Less, Equal, Greater}
use Rattle.definitions.specs.Name.{is_greater}
use Rattle.definitions.specs.Collection.{In, here, later, Once}
use Rattle.definitions.specs.Sorting.{insert, sort}
use Rattle.definitions.proofs.Collections.{nothing_in}
use Rattle.order_laws.specs.Ordered.{flip, LessThanFirst, Ascending, Lawful}
use Rattle.order_laws.specs.Sorted.{SameCollection}

module _ {A : Type 0} (compare : A → A → Ordering) where
  -- what stands in a list after an insertion
  insert_new : (a : A) (l : List A) → In a (insert compare a l)
  unfolding insert
  insert_new a [] = here refl
  insert_new a (c ∷ l) = go (is_greater (compare a c)) (insert_new a l)
    where
      go : (follows : Bool) → In a (insert compare a l) → In a (cond follows (c ∷ insert compare a l) (a ∷ (c ∷ l)))
      go true again = later again
      go false again = here refl

  insert_old : (a b : A) (l : List A) → In b l → In b (insert compare a l)
  unfolding insert
  insert_old a b [] h = absurd (nothing_in h)
  insert_old a b (c ∷ l) h = go (insert_old a b l) (is_greater (compare a c)) h
    where
      go : (In b l → In b (insert compare a l)) → (follows : Bool) → In b (c ∷ l)
          → In b (cond follows (c ∷ insert compare a l) (a ∷ (c ∷ l)))
      go again true (here e) = here e
      go again true (later k) = later (again k)
      go again false k = later k

  in_insert : (a b : A) (l : List A) → In b (insert compare a l) → (b ≡ a) ⊎ In b l
  unfolding insert
  in_insert a b [] (here e) = inl e
  in_insert a b [] (later h) = inr h
  in_insert a b (c ∷ l) h = go (in_insert a b l) (is_greater (compare a c)) h
    where
      go : (In b (insert compare a l) → (b ≡ a) ⊎ In b l) → (follows : Bool)
          → In b (cond follows (c ∷ insert compare a l) (a ∷ (c ∷ l))) → (b ≡ a) ⊎ In b (c ∷ l)
      go again true (here e) = inr (here e)
      go again true (later k) = elim (again k) [ inl e ↦ inl e | inr m ↦ inr (later m) ]
      go again false (here e) = inl e
      go again false (later k) = inr k

  sorted_in : (b : A) (l : List A) → In b (sort compare l) → In b l
  unfolding sort
  sorted_in b [] h = h
  sorted_in b (a ∷ l) h = elim (in_insert a b (sort compare l) h) [ inl e ↦ here e | inr k ↦ later (sorted_in b l k) ]

  in_sorted : (b : A) (l : List A) → In b l → In b (sort compare l)
  unfolding sort
  in_sorted b [] h = h
  in_sorted b (a ∷ l) (here e) = subst (λ x. In x (insert compare a (sort compare l))) (sym e) (insert_new a (sort compare l))
  in_sorted b (a ∷ l) (later h) = insert_old a b (sort compare l) (in_sorted b l h)

  pub sort_in : (l : List A) → SameCollection (sort compare l) l
  unfolding SameCollection
  sort_in l b = (sorted_in b l, in_sorted b l)

  insert_once : (a : A) (l : List A) → (In a l → ⊥) → Once l → Once (insert compare a l)
  unfolding insert Once
  insert_once a [] new o = (nothing_in, tt)
  insert_once a (c ∷ l) new o = go (insert_once a l (λ h. new (later h)) o.1) (is_greater (compare a c))
    where
      go : Once (insert compare a l) → (follows : Bool) → Once (cond follows (c ∷ insert compare a l) (a ∷ (c ∷ l)))
      go again true = ((λ h. elim (in_insert a c l h) [ inl e ↦ new (here (sym e)) | inr k ↦ o.0 k ]), again)
      go again false = (new, o)

  pub sort_once : (l : List A) → Once l → Once (sort compare l)
  unfolding sort Once
  sort_once [] o = o
  sort_once (a ∷ l) o = insert_once a (sort compare l) (λ h. o.0 (sorted_in a l h)) (sort_once l o.1)

  module _ (order : Lawful compare) where
    -- an insertion of what is not there keeps the ascent
    insert_first : (c a : A) (l : List A) → compare c a ≡ Less → LessThanFirst compare c l → LessThanFirst compare c (insert compare a l)
    unfolding insert LessThanFirst
    insert_first c a [] e h = e
    insert_first c a (b ∷ l) e h = go (is_greater (compare a b))
      where
        go : (follows : Bool) → LessThanFirst compare c (cond follows (b ∷ insert compare a l) (a ∷ (b ∷ l)))
        go true = h
        go false = e

    insert_ascends : (a : A) (l : List A) → (In a l → ⊥) → Ascending compare l → Ascending compare (insert compare a l)
    unfolding insert is_greater Ascending LessThanFirst flip
    insert_ascends a [] new s = (tt, tt)
    insert_ascends a (b ∷ l) new s = go (insert_ascends a l (λ h. new (later h)) s.1) (compare a b) refl
      where
        go : Ascending compare (insert compare a l) → (o : Ordering) → compare a b ≡ o
            → Ascending compare (cond (is_greater o) (b ∷ insert compare a l) (a ∷ (b ∷ l)))
        go again Less e = (e, s)
        go again Equal e = absurd (new (here (order.same a b e)))
        go again Greater e = (insert_first b a l (order.flipped a b ∙ ap flip e) s.0, again)

    pub sort_ascends : (l : List A) → Once l → Ascending compare (sort compare l)
    unfolding sort Once Ascending
    sort_ascends [] o = tt
    sort_ascends (a ∷ l) o = insert_ascends a (sort compare l) (λ h. o.0 (sorted_in a l h)) (sort_ascends l o.1)

    -- the first of an ascending list is less than each of the others
    below_all : (a b : A) (l : List A) → LessThanFirst compare a l → Ascending compare l → In b l → compare a b ≡ Less
    unfolding LessThanFirst Ascending
    below_all a b [] h s k = absurd (nothing_in k)
    below_all a b (c ∷ l) h s (here e) = rw e h
    below_all a b (c ∷ l) h s (later k) = order.transitive a c b h (below_all c b l s.0 s.1 k)

    not_below_itself : (a : A) → compare a a ≡ Less → ⊥
    not_below_itself a e = let f = order.self a in grind arith

    not_both_below : (a b : A) → compare a b ≡ Less → compare b a ≡ Less → ⊥
    not_both_below a b e f = not_below_itself a (order.transitive a b a e f)

    -- there is one ascending list of a collection, so any way of sorting gives it
    pub one_ascent : (l m : List A) → Ascending compare l → Ascending compare m → SameCollection l m → l ≡ m
    unfolding SameCollection Ascending
    one_ascent [] [] s t same = refl
    one_ascent [] (b ∷ m) s t same = absurd (nothing_in ((same b).1 (here refl)))
    one_ascent (a ∷ l) [] s t same = absurd (nothing_in ((same a).0 (here refl)))
    one_ascent (a ∷ l) (b ∷ m) s t same =
        let first = heads ((same a).0 (here refl)) ((same b).1 (here refl)) in
        let rest = one_ascent l m s.1 t.1 (λ c. ((λ h. left first c ((same c).0 (later h)) h), (λ h. right first c ((same c).1 (later h)) h))) in
        cc
      where
        heads : In a (b ∷ m) → In b (a ∷ l) → a ≡ b
        heads (here e) k = e
        heads (later h) (here e) = sym e
        heads (later h) (later k) = absurd (not_both_below a b (below_all a b l s.0 s.1 k) (below_all b a m t.0 t.1 h))

        left : a ≡ b → (c : A) → In c (b ∷ m) → In c l → In c m
        left e c (here f) h = absurd (not_below_itself a (subst (λ x. compare a x ≡ Less) (f ∙ sym e) (below_all a c l s.0 s.1 h)))
        left e c (later k) h = k

        right : a ≡ b → (c : A) → In c (a ∷ l) → In c m → In c l
        right e c (here f) h = absurd (not_below_itself b (subst (λ x. compare b x ≡ Less) (f ∙ e) (below_all b c m t.0 t.1 h)))
        right e c (later k) h = k
