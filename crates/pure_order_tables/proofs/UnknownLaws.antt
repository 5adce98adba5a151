-- The first unknown class of joined lists.
use Rattle.std.proofs.Common.{◌≡◌, ℕ, ◌+◌, ◌<◌, List, [], ◌∷◌, ◌++◌, length, get_or, take, drop, refl, sym, ap, ◌∙◌, append_assoc}
use Rattle.pure_text.specs.Lists.{Each}
use Rattle.pure_definitions.specs.Types.Order.{Class}
use Rattle.pure_order_tables.specs.Classes.{IsDeclared}
use Rattle.pure_order_tables.specs.Unknown.{IsFirstUnknown, joined}
use Rattle.pure_text.proofs.ListLaws.{split_at, each-append}

joined-append : (xs ys : List (List ℕ)) → joined (xs ++ ys) ≡ joined xs ++ joined ys
joined-append [] ys = refl
joined-append (x ∷ xs) ys = ap (λ zs. x ++ zs) (joined-append xs ys) ∙ sym (append_assoc x (joined xs) (joined ys))

pub each-joined : (P : ℕ → Type 0) (ss : List (List ℕ)) → Each (Each P) ss → Each P (joined ss)
each-joined P [] h = tt
each-joined P (s ∷ ss) h = each-append P s (joined ss) h.0 (each-joined P ss h.1)

pub unknown_front : (cs : List Class) (xs ys : List ℕ) (c : ℕ) → IsFirstUnknown cs xs c → IsFirstUnknown cs (xs ++ ys) c
unknown_front cs xs ys c u = record { front = u.front; rest = u.rest ++ ys; is = rw u.is (append_assoc u.front (c ∷ u.rest) ys); declared = u.declared; unknown = u.unknown }

pub unknown_behind : (cs : List Class) (xs ys : List ℕ) (c : ℕ) → Each (IsDeclared cs) xs → IsFirstUnknown cs ys c → IsFirstUnknown cs (xs ++ ys) c
unknown_behind cs xs ys c known u = record { front = xs ++ u.front; rest = u.rest; is = ap (λ zs. xs ++ zs) u.is ∙ sym (append_assoc xs u.front (c ∷ u.rest)); declared = each-append (IsDeclared cs) xs u.front known u.declared; unknown = u.unknown }

pub unknown_one : (cs : List Class) (c : ℕ) → ¬ IsDeclared cs c → IsFirstUnknown cs (c ∷ []) c
unknown_one cs c not = record { front = []; rest = []; is = refl; declared = tt; unknown = not }

pub unknown_in : (cs : List Class) (ss : List (List ℕ)) (i : ℕ) (r names : List ℕ) (c : ℕ) → i < length ss → r ≡ get_or ss i r → names ≡ r → Each (Each (IsDeclared cs)) (take i ss) → IsFirstUnknown cs names c → IsFirstUnknown cs (joined ss) c
unknown_in cs ss i r names c within read same known u =
    let whole : joined ss ≡ joined (take i ss) ++ (r ++ joined (drop (i + 1) ss)) = ap joined (split_at ss i r within read) ∙ joined-append (take i ss) (r ∷ drop (i + 1) ss) in
    rw whole (unknown_behind cs (joined (take i ss)) (r ++ joined (drop (i + 1) ss)) c (each-joined (IsDeclared cs) (take i ss) known) (unknown_front cs r (joined (drop (i + 1) ss)) c (rw same at u)))
