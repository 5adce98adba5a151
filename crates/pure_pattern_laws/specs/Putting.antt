-- Images are put into a pattern by renaming: what becomes of `?F zs`, where the image of `?F` is `%xs. b`, is b with zs in place of the xs, and that is in long form already.
use Rattle.std.specs.Prelude.{ℕ, zero, suc, ◌+◌, ◌-◌, nat_lt, List, [], ◌∷◌, map, reverse, if◌then◌else◌}
use Rattle.pure_definitions.specs.Terms.Term.{Term, Const, Free, Var, Bound, Abs, App}
use Rattle.pure_definitions.specs.Reduction.Eta.{abstraction_count}
use Rattle.pure_unify_definitions.specs.Fronts.{front, head, term_body, arguments, is_schematic}

-- the number of a bound variable
abbrev pub bound_place : Term → ℕ
bound_place (Bound p) = p
bound_place _ = 0

-- the bound variable that an argument in long form is up to eta steps
abbrev pub place_of : Term → ℕ
place_of t = bound_place (head t) - abstraction_count t

-- the bound variable that stands for p, where the list has those for 0, 1 and so on, in order
abbrev pub place_in : List ℕ → ℕ → ℕ
place_in [] p = p
place_in (w ∷ ws) zero = w
place_in (w ∷ ws) (suc p) = place_in ws p

-- Under n binders of the term: their own bound variables stay, and those above them are renamed by the list.
abbrev pub renamed : (n : ℕ) → (ws : List ℕ) → Term → Term
renamed n ws (Const c T) = Const c T
renamed n ws (Free x T) = Free x T
renamed n ws (Var x i T) = Var x i T
renamed n ws (Bound p) = if nat_lt p n then Bound p else Bound (n + place_in ws (p - n))
renamed n ws (Abs T b) = Abs T (renamed (n + 1) ws b)
renamed n ws (App f a) = App (renamed n ws f) (renamed n ws a)

-- what becomes of the variable's application t, where the variable has this image: it stays where the variable isn't set, whose image is then no abstraction
abbrev pub put_application : (image t : Term) → Term
put_application (Abs T b) t = renamed 0 (reverse (map place_of (arguments t))) (term_body b)
put_application _ t = t

-- the pattern, in long form, with the image of each schematic variable put in; so it is in long form again
abbrev pub put_in : (Term → Term) → Term → Term
put_in terms (Var x i T) = terms (Var x i T)
put_in terms (Abs T b) = Abs T (put_in terms b)
put_in terms (App f a) = if is_schematic (front f) then put_application (terms (front f)) (App f a) else App (put_in terms f) (put_in terms a)
put_in terms t = t
