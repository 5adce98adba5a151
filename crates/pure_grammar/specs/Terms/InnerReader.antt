-- What a reader of terms and types does with one lexeme after another. Inner says what the text means.
use Rattle.std.specs.Prelude.{ℕ, ◌==◌, Bool, true, false, not, nat_eq, nat_le, Option, Some, None, List, [], ◌∷◌, ◌++◌, if◌then◌else◌}
use Rattle.pure_grammar.specs.declared.token.TokenKind.{TokenKind}
use Rattle.pure_grammar.specs.declared.token.TokenKind.TheVariants as kind
use Rattle.pure_grammar.specs.declared.inner.Opening.{Opening}
use Rattle.pure_grammar.specs.declared.inner.Opening.TheVariants as opening
use Rattle.pure_grammar.specs.declared.inner.Mark.{Mark}
use Rattle.pure_grammar.specs.declared.inner.Mark.TheVariants as mark
use Rattle.pure_grammar.specs.Terms.InnerLexeme.{InnerLexeme, Plain, Dotted, Variable, Schematic, TypeSchematic, Bound, Opens, Signed, Ends}
use Rattle.pure_grammar.specs.Terms.RawTree.{RawClassTree, RawTypTree, RawTree, raw_typs_of, implication, equation, generality, function_type}
use Rattle.pure_grammar.specs.Terms.RawTree as tree

-- ---- what a lexeme is

-- a name or a variable by its token
pub record Written : Type 0 where
  pub at : ℕ
  pub kind : TokenKind
  pub text : List ℕ

-- a name or a variable of a term
abbrev pub leaf_in : InnerLexeme → Option Written
leaf_in (Plain text at) = Some (record { at = at; kind = kind.Ident; text = text })
leaf_in (Dotted text at) = Some (record { at = at; kind = kind.Qualified; text = text })
leaf_in (Schematic text at) = Some (record { at = at; kind = kind.Schem; text = text })
leaf_in (Bound text at) = Some (record { at = at; kind = kind.BoundName; text = text })
leaf_in _ = None

-- a variable of a binder
abbrev pub var_in : InnerLexeme → Option Written
var_in (Plain text at) = Some (record { at = at; kind = kind.Ident; text = text })
var_in (Bound text at) = Some (record { at = at; kind = kind.BoundName; text = text })
var_in _ = None

-- a variable of a type
abbrev pub variable_in : InnerLexeme → Option Written
variable_in (Variable text at) = Some (record { at = at; kind = kind.TypeVar; text = text })
variable_in (TypeSchematic text at) = Some (record { at = at; kind = kind.Schem; text = text })
variable_in _ = None

-- a name of a class or a constructor
abbrev pub name_in : InnerLexeme → Option Written
name_in (Plain text at) = Some (record { at = at; kind = kind.Ident; text = text })
name_in (Dotted text at) = Some (record { at = at; kind = kind.Qualified; text = text })
name_in _ = None

-- a number for each sign
abbrev pub opening_number : Opening → ℕ
opening_number opening.All = 0
opening_number opening.Lambda = 1
opening_number opening.Premises = 2
opening_number opening.Parenthesis = 3
opening_number opening.Bracket = 4

abbrev pub mark_number : Mark → ℕ
mark_number mark.Implies = 0
mark_number mark.Equals = 1
mark_number mark.Arrow = 2
mark_number mark.DoubleColon = 3
mark_number mark.ClosePremises = 4
mark_number mark.Dot = 5
mark_number mark.Comma = 6
mark_number mark.Semicolon = 7
mark_number mark.CloseParenthesis = 8
mark_number mark.CloseBracket = 9
mark_number mark.OpenBrace = 10
mark_number mark.CloseBrace = 11

-- where this opening stands, if the lexeme is it
abbrev pub opening_at : Opening → InnerLexeme → Option ℕ
opening_at o (Opens found at) = if opening_number found == opening_number o then Some at else None
opening_at o _ = None

-- the lexeme is this sign
abbrev pub is_mark : Mark → InnerLexeme → Bool
is_mark m (Signed found) = mark_number found == mark_number m
is_mark m _ = false

abbrev pub is_end : InnerLexeme → Bool
is_end Ends = true
is_end _ = false

-- ---- what stands open

-- which of the two signs binds
pub data Quantifier : Type 0 where
  OfAll : Quantifier
  OfLambda : Quantifier

-- What a term ends as soon as something looser follows: the body of a binder, the right side of `==`, or what a premise
-- implies. `at` is where the whole begins, `binder` where the binder does.
pub data Join : Type 0 where
  LambdaBody : (at : ℕ) → (var : List ℕ) → (typ : Option RawTypTree) → Join
  RightSide : (at : ℕ) → (left : RawTree) → Join
  Conclusion : (at : ℕ) → (premise : RawTree) → Join
  AllBody : (at binder : ℕ) → (var : List ℕ) → (typ : Option RawTypTree) → Join

-- What a term stands in: a list of premises, or parentheses, with the function before them or not.
pub data TermOpen : Type 0 where
  FirstPremise : (at : ℕ) → TermOpen
  NextPremise : TermOpen
  Enclosed : (at : ℕ) → TermOpen
  Argument : (at : ℕ) → (function : RawTree) → TermOpen

-- What a type stands in: a constraint on a term, a binder in parentheses, a binder by itself, a list of domains,
-- parentheses, or parentheses with arguments before it.
pub data TypeOpen : Type 0 where
  Constraint : (at : ℕ) → (term : RawTree) → TypeOpen
  BinderType : (quantifier : Quantifier) → (at binder : ℕ) → (var : List ℕ) → TypeOpen
  OnlyBinderType : (quantifier : Quantifier) → (at binder : ℕ) → (var : List ℕ) → TypeOpen
  FirstDomain : (at : ℕ) → TypeOpen
  NextDomain : TypeOpen
  EnclosedType : (at : ℕ) → TypeOpen
  MoreArguments : (at : ℕ) → (arguments : List RawTypTree) → TypeOpen

-- One thing that stands open to the left. `Range` is the right side of `=>`.
pub data Frame : Type 0 where
  Joined : (join : Join) → Frame
  InTerm : (around : TermOpen) → Frame
  Range : (at : ℕ) → (domain : RawTypTree) → Frame
  InType : (around : TypeOpen) → Frame

-- ---- where the text is

pub data Place : Type 0 where
  AtTerm : Place
  AtCon : Place
  AfterAtom : (at : ℕ) → (app : RawTree) → Place
  AtImplies : Place
  AtBinder : (quantifier : Quantifier) → (at : ℕ) → Place
  AfterFirstVar : (quantifier : Quantifier) → (at binder : ℕ) → (var : List ℕ) → Place
  AfterBinder : (quantifier : Quantifier) → Place
  AtBinderVar : (quantifier : Quantifier) → (at binder : ℕ) → Place
  AfterBinderVar : (quantifier : Quantifier) → (at binder : ℕ) → (var : List ℕ) → Place
  AtType : Place
  AfterVariable : (variable : Written) → Place
  AtSort : (variable : Written) → Place
  AtFirstClass : (variable : Written) → Place
  AfterClass : (variable : Written) → (classes : List RawClassTree) → Place
  AtNextClass : (variable : Written) → (classes : List RawClassTree) → Place
  AfterPost : (at : ℕ) → (typ : RawTypTree) → Place
  AtConstructor : (at : ℕ) → (arguments : List RawTypTree) → Place
  AtArrow : Place

-- A place with what stands open, the innermost first, or all is read.
pub data State : Type 0 where
  In : (place : Place) → (stack : List Frame) → State
  DoneTerm : (term : RawTree) → State
  DoneType : (typ : RawTypTree) → State

-- all is read
abbrev pub is_done : State → Bool
is_done (In place stack) = false
is_done (DoneTerm t) = true
is_done (DoneType T) = true

abbrev pub goes_if : Bool → State → Option State
goes_if true s = Some s
goes_if false s = None

-- with where an opening stands, or else
abbrev pub goes_at : Option ℕ → (ℕ → State) → Option State → Option State
goes_at None state other = other
goes_at (Some at) state other = Some (state at)

abbrev pub goes_with : Option Written → (Written → State) → Option State → Option State
goes_with None state other = other
goes_with (Some w) state other = Some (state w)

-- ---- terms

abbrev pub leaf : Written → RawTree
leaf w = tree.Leaf w.at w.kind w.text

-- how tightly: what has at least the level of a token ends before it
abbrev pub join_level : Join → ℕ
join_level (LambdaBody at x T) = 3
join_level (RightSide at left) = 2
join_level (Conclusion at a) = 1
join_level (AllBody at binder x T) = 1

abbrev pub join_at : Join → ℕ
join_at (LambdaBody at x T) = at
join_at (RightSide at left) = at
join_at (Conclusion at a) = at
join_at (AllBody at binder x T) = at

abbrev pub join_term : Join → RawTree → RawTree
join_term (LambdaBody at x T) t = tree.Abs at x T t
join_term (RightSide at left) t = equation at left t
join_term (Conclusion at a) t = implication at a t
join_term (AllBody at binder x T) t = generality at binder x T t

-- a term that is read, where it begins, and what stands open round it
pub record TermPart : Type 0 where
  pub at : ℕ
  pub term : RawTree
  pub stack : List Frame

-- all that has at least this level ends
abbrev pub reduced : ℕ → ℕ → RawTree → List Frame → TermPart
reduced level at t [] = record { at = at; term = t; stack = [] }
reduced level at t (Joined j ∷ k) = if nat_le level (join_level j) then reduced level (join_at j) (join_term j t) k else record { at = at; term = t; stack = Joined j ∷ k }
reduced level at t (InTerm o ∷ k) = record { at = at; term = t; stack = InTerm o ∷ k }
reduced level at t (Range a d ∷ k) = record { at = at; term = t; stack = Range a d ∷ k }
reduced level at t (InType o ∷ k) = record { at = at; term = t; stack = InType o ∷ k }

-- the right side of `==`
abbrev pub is_right_side : Frame → Bool
is_right_side (Joined j) = nat_eq (join_level j) 2
is_right_side (InTerm o) = false
is_right_side (Range a d) = false
is_right_side (InType o) = false

-- the right side of `==` is the innermost thing that stands open
abbrev pub in_right_side : List Frame → Bool
in_right_side [] = false
in_right_side (f ∷ k) = is_right_side f

-- behind `==`, which no right side takes
abbrev pub equals : TermPart → Option State
equals p = goes_if (not (in_right_side p.stack)) (In AtCon (Joined (RightSide p.at p.term) ∷ p.stack))

-- behind `==>`
abbrev pub implies : TermPart → Option State
implies p = Some (In AtTerm (Joined (Conclusion p.at p.term) ∷ p.stack))

-- behind a premise in a list
abbrev pub premise_ends : List Frame → InnerLexeme → Option State
premise_ends k l = if is_mark mark.Semicolon l then Some (In AtTerm (InTerm NextPremise ∷ k)) else goes_if (is_mark mark.ClosePremises l) (In AtImplies k)

-- behind a term in a list of premises or in parentheses
abbrev pub open_ends : ℕ → RawTree → TermOpen → List Frame → InnerLexeme → Option State
open_ends at t (FirstPremise a) k l = premise_ends (Joined (Conclusion a t) ∷ k) l
open_ends at t NextPremise k l = premise_ends (Joined (Conclusion at t) ∷ k) l
open_ends at t (Enclosed a) k l = goes_if (is_mark mark.CloseParenthesis l) (In (AfterAtom a t) k)
open_ends at t (Argument a f) k l = goes_if (is_mark mark.CloseParenthesis l) (In (AfterAtom a (tree.App a f t)) k)

-- behind a whole term
abbrev pub term_ends : ℕ → RawTree → List Frame → InnerLexeme → Option State
term_ends at t [] l = goes_if (is_end l) (DoneTerm t)
term_ends at t (Joined j ∷ k) l = None
term_ends at t (InTerm o ∷ k) l = open_ends at t o k l
term_ends at t (Range a d ∷ k) l = None
term_ends at t (InType o ∷ k) l = None

abbrev pub part_ends : TermPart → InnerLexeme → Option State
part_ends p l = term_ends p.at p.term p.stack l

-- Behind an application, a constraint or an abstraction.
abbrev pub con_ends : ℕ → RawTree → List Frame → InnerLexeme → Option State
con_ends at t k l =
    if is_mark mark.Equals l then equals (reduced 3 at t k)
    else (if is_mark mark.Implies l then implies (reduced 2 at t k)
    else part_ends (reduced 1 at t k) l)

abbrev pub after_leaf : ℕ → RawTree → List Frame → InnerLexeme → Option State
after_leaf at f k l = if is_mark mark.DoubleColon l then Some (In AtType (InType (Constraint at f) ∷ k)) else con_ends at f k l

abbrev pub after_atom : ℕ → RawTree → List Frame → InnerLexeme → Option State
after_atom at f k l =
    goes_at (opening_at opening.Parenthesis l) (λ p. In AtTerm (InTerm (Argument at f) ∷ k))
    (goes_with (leaf_in l) (λ w. In (AfterAtom at (tree.App at f (leaf w))) k) (after_leaf at f k l))

abbrev pub atom_begun : List Frame → InnerLexeme → Option State
atom_begun k l =
    goes_at (opening_at opening.Parenthesis l) (λ at. In AtTerm (InTerm (Enclosed at) ∷ k))
    (goes_with (leaf_in l) (λ w. In (AfterAtom w.at (leaf w)) k) None)

abbrev pub con_begun : List Frame → InnerLexeme → Option State
con_begun k l = goes_at (opening_at opening.Lambda l) (λ at. In (AtBinder OfLambda at) k) (atom_begun k l)

abbrev pub term_begun : List Frame → InnerLexeme → Option State
term_begun k l =
    goes_at (opening_at opening.All l) (λ at. In (AtBinder OfAll at) k)
    (goes_at (opening_at opening.Premises l) (λ at. In AtTerm (InTerm (FirstPremise at) ∷ k)) (con_begun k l))

-- ---- binders

abbrev pub bound : Quantifier → (at binder : ℕ) → List ℕ → Option RawTypTree → Frame
bound OfAll at binder x T = Joined (AllBody at binder x T)
bound OfLambda at binder x T = Joined (LambdaBody at x T)

abbrev pub body_place : Quantifier → Place
body_place OfAll = AtTerm
body_place OfLambda = AtCon

abbrev pub at_binder : Quantifier → ℕ → List Frame → InnerLexeme → Option State
at_binder q at k l =
    goes_at (opening_at opening.Parenthesis l) (λ p. In (AtBinderVar q at p) k)
    (goes_with (var_in l) (λ w. In (AfterFirstVar q at w.at w.text) k) None)

abbrev pub after_binder : Quantifier → List Frame → InnerLexeme → Option State
after_binder q k l =
    goes_at (opening_at opening.Parenthesis l) (λ p. In (AtBinderVar q p p) k)
    (goes_with (var_in l) (λ w. In (AfterBinder q) (bound q w.at w.at w.text None ∷ k))
    (goes_if (is_mark mark.Dot l) (In (body_place q) k)))

abbrev pub after_first_var : Quantifier → (at binder : ℕ) → List ℕ → List Frame → InnerLexeme → Option State
after_first_var q at binder x k l =
    if is_mark mark.DoubleColon l then Some (In AtType (InType (OnlyBinderType q at binder x) ∷ k))
    else after_binder q (bound q at binder x None ∷ k) l

-- ---- types

abbrev pub variable_type : Written → List RawClassTree → RawTypTree
variable_type w classes = tree.Var w.at w.kind w.text classes

abbrev pub written_class : Written → RawClassTree
written_class w = record { at = w.at; name = w.text }

-- a type that is read, where it begins, and what stands open round it
pub record TypePart : Type 0 where
  pub at : ℕ
  pub typ : RawTypTree
  pub stack : List Frame

-- all right sides of `=>` end
abbrev pub ranged : ℕ → RawTypTree → List Frame → TypePart
ranged at t [] = record { at = at; typ = t; stack = [] }
ranged at t (Joined j ∷ k) = record { at = at; typ = t; stack = Joined j ∷ k }
ranged at t (InTerm o ∷ k) = record { at = at; typ = t; stack = InTerm o ∷ k }
ranged at t (Range a d ∷ k) = ranged a (function_type a d t) k
ranged at t (InType o ∷ k) = record { at = at; typ = t; stack = InType o ∷ k }

-- behind a domain in a list
abbrev pub domain_ends : List Frame → InnerLexeme → Option State
domain_ends k l = if is_mark mark.Comma l then Some (In AtType (InType NextDomain ∷ k)) else goes_if (is_mark mark.CloseBracket l) (In AtArrow k)

-- behind a type in parentheses, with these before it
abbrev pub argument_ends : ℕ → List RawTypTree → State → List Frame → InnerLexeme → Option State
argument_ends a ts closed k l = if is_mark mark.Comma l then Some (In AtType (InType (MoreArguments a ts) ∷ k)) else goes_if (is_mark mark.CloseParenthesis l) closed

-- behind a type, by what it stands in
abbrev pub type_open_ends : ℕ → RawTypTree → TypeOpen → List Frame → InnerLexeme → Option State
type_open_ends at T (Constraint a t) k l = con_ends a (tree.Typed a t T) k l
type_open_ends at T (BinderType q a b x) k l = goes_if (is_mark mark.CloseParenthesis l) (In (AfterBinder q) (bound q a b x (Some T) ∷ k))
type_open_ends at T (OnlyBinderType q a b x) k l = goes_if (is_mark mark.Dot l) (In (body_place q) (bound q a b x (Some T) ∷ k))
type_open_ends at T (FirstDomain a) k l = domain_ends (Range a T ∷ k) l
type_open_ends at T NextDomain k l = domain_ends (Range at T ∷ k) l
type_open_ends at T (EnclosedType a) k l = argument_ends a (T ∷ []) (In (AfterPost a T) k) k l
type_open_ends at T (MoreArguments a ts) k l = argument_ends a (ts ++ T ∷ []) (In (AtConstructor a (ts ++ T ∷ [])) k) k l

-- behind a whole type
abbrev pub whole_type_ends : ℕ → RawTypTree → List Frame → InnerLexeme → Option State
whole_type_ends at T [] l = goes_if (is_end l) (DoneType T)
whole_type_ends at T (Joined j ∷ k) l = None
whole_type_ends at T (InTerm o ∷ k) l = None
whole_type_ends at T (Range a d ∷ k) l = None
whole_type_ends at T (InType o ∷ k) l = type_open_ends at T o k l

abbrev pub type_part_ends : TypePart → InnerLexeme → Option State
type_part_ends p l = whole_type_ends p.at p.typ p.stack l

abbrev pub type_ends : ℕ → RawTypTree → List Frame → InnerLexeme → Option State
type_ends at T k l = if is_mark mark.Arrow l then Some (In AtType (Range at T ∷ k)) else type_part_ends (ranged at T k) l

abbrev pub after_post : ℕ → RawTypTree → List Frame → InnerLexeme → Option State
after_post at T k l = goes_with (name_in l) (λ w. In (AfterPost at (tree.Con at w.text (tree.also T tree.none))) k) (type_ends at T k l)

abbrev pub after_variable : Written → List Frame → InnerLexeme → Option State
after_variable w k l = if is_mark mark.DoubleColon l then Some (In (AtSort w) k) else after_post w.at (variable_type w []) k l

abbrev pub name_begun : List Frame → InnerLexeme → Option State
name_begun k l =
    goes_with (variable_in l) (λ w. In (AfterVariable w) k)
    (goes_with (name_in l) (λ w. In (AfterPost w.at (tree.Con w.at w.text tree.none)) k) None)

abbrev pub type_begun : List Frame → InnerLexeme → Option State
type_begun k l =
    goes_at (opening_at opening.Bracket l) (λ at. In AtType (InType (FirstDomain at) ∷ k))
    (goes_at (opening_at opening.Parenthesis l) (λ at. In AtType (InType (EnclosedType at) ∷ k)) (name_begun k l))

abbrev pub at_sort : Written → List Frame → InnerLexeme → Option State
at_sort v k l =
    if is_mark mark.OpenBrace l then Some (In (AtFirstClass v) k)
    else goes_with (name_in l) (λ w. In (AfterPost v.at (variable_type v (written_class w ∷ []))) k) None

abbrev pub at_first_class : Written → List Frame → InnerLexeme → Option State
at_first_class v k l =
    if is_mark mark.CloseBrace l then Some (In (AfterPost v.at (variable_type v [])) k)
    else goes_with (name_in l) (λ w. In (AfterClass v (written_class w ∷ [])) k) None

abbrev pub after_class : Written → List RawClassTree → List Frame → InnerLexeme → Option State
after_class v cs k l =
    if is_mark mark.Comma l then Some (In (AtNextClass v cs) k)
    else goes_if (is_mark mark.CloseBrace l) (In (AfterPost v.at (variable_type v cs)) k)

-- ---- all places

abbrev pub turn : Place → List Frame → InnerLexeme → Option State
turn AtTerm k l = term_begun k l
turn AtCon k l = con_begun k l
turn (AfterAtom at f) k l = after_atom at f k l
turn AtImplies k l = goes_if (is_mark mark.Implies l) (In AtTerm k)
turn (AtBinder q at) k l = at_binder q at k l
turn (AfterFirstVar q at b x) k l = after_first_var q at b x k l
turn (AfterBinder q) k l = after_binder q k l
turn (AtBinderVar q at b) k l = goes_with (var_in l) (λ w. In (AfterBinderVar q at b w.text) k) None
turn (AfterBinderVar q at b x) k l = goes_if (is_mark mark.DoubleColon l) (In AtType (InType (BinderType q at b x) ∷ k))
turn AtType k l = type_begun k l
turn (AfterVariable v) k l = after_variable v k l
turn (AtSort v) k l = at_sort v k l
turn (AtFirstClass v) k l = at_first_class v k l
turn (AfterClass v cs) k l = after_class v cs k l
turn (AtNextClass v cs) k l = goes_with (name_in l) (λ w. In (AfterClass v (cs ++ written_class w ∷ [])) k) None
turn (AfterPost at T) k l = after_post at T k l
turn (AtConstructor at ts) k l = goes_with (name_in l) (λ w. In (AfterPost at (tree.Con at w.text (raw_typs_of ts))) k) None
turn AtArrow k l = goes_if (is_mark mark.Arrow l) (In AtType k)

-- where the text is, behind one more token
abbrev pub next : State → InnerLexeme → Option State
next (In place stack) l = turn place stack l
next (DoneTerm t) l = None
next (DoneType T) l = None

abbrev pub goes_on : Option State → (State → Option State) → Option State
goes_on None on = None
goes_on (Some s) on = on s

-- where the text is, behind all these tokens, if it gets there
abbrev pub run : State → List InnerLexeme → Option State
run s [] = Some s
run s (l ∷ ls) = goes_on (next s l) (λ t. run t ls)
