-- What is read of a record's lexemes: marks, and lists of lines and items.
use Rattle.std.proofs.Common.{◌≡◌, inl, inr, true, false, ℕ, ◌+◌, ◌<◌, List, [], ◌∷◌, ◌++◌, length, get_or, drop, refl, sym, ◌∙◌, ap, subst, append_assoc}
use Rattle.std.proofs.lemmas.List.{append-nil, drop_more, map-append}
use Rattle.std.proofs.lemmas.Bool.Decides.{eqb_tells}
use Rattle.pure_record.specs.Items.{Item}
use Rattle.pure_record.specs.Lines.{Node}
use Rattle.pure_record.specs.Grammar.{IsNode, IsItem, AreLines, AreItems}
use Rattle.pure_record.specs.Machine.{mark_number, is_mark}
use Rattle.pure_record.specs.Seen.{seen_item, seen_items, seen_node, seen_lines}
use Rattle.pure_record.specs.declared.record.Item as their
use Rattle.pure_record.specs.declared.record.Node as own
use Rattle.pure_record.specs.declared.lexeme.Mark.{Mark}
use Rattle.pure_record.specs.declared.lexeme.Mark.TheVariants as mark
use Rattle.pure_record.specs.declared.lexeme.Lexeme.{Lexeme}
use Rattle.pure_record.specs.declared.lexeme.Lexeme.TheVariants.{Marked, Identifier, TypeVariable, SchematicType, SchematicTerm, Bound, Numeral, Other}

-- ---- lexemes
all_marks : List Mark
all_marks = mark.Begin ∷ mark.End ∷ mark.Typedecl ∷ mark.Consts ∷ mark.Axiomatization ∷ mark.Bar ∷ mark.Colon ∷ mark.DoubleColon ∷ mark.Comma ∷ mark.Semicolon ∷ mark.Percent ∷ mark.OpenParenthesis ∷ mark.CloseParenthesis ∷ mark.OpenBracket ∷ mark.CloseBracket ∷ mark.OpenBrace ∷ mark.CloseBrace ∷ mark.SourceEnd ∷ []

mark_at : ℕ → Mark
mark_at n = get_or all_marks n mark.SourceEnd

mark-again : (m : Mark) → mark_at (mark_number m) ≡ m
unfolding mark_at all_marks
mark-again mark.Begin = refl
mark-again mark.End = refl
mark-again mark.Typedecl = refl
mark-again mark.Consts = refl
mark-again mark.Axiomatization = refl
mark-again mark.Bar = refl
mark-again mark.Colon = refl
mark-again mark.DoubleColon = refl
mark-again mark.Comma = refl
mark-again mark.Semicolon = refl
mark-again mark.Percent = refl
mark-again mark.OpenParenthesis = refl
mark-again mark.CloseParenthesis = refl
mark-again mark.OpenBracket = refl
mark-again mark.CloseBracket = refl
mark-again mark.OpenBrace = refl
mark-again mark.CloseBrace = refl
mark-again mark.SourceEnd = refl

pub mark-is : (m : Mark) (l : Lexeme) → is_mark m l ≡ true → l ≡ Marked m
mark-is m (Marked found) e = elim (eqb_tells (mark_number found) (mark_number m)) [
  | inl w ↦ ap Marked (sym (mark-again found) ∙ ap mark_at w.1 ∙ mark-again m)
  | inr w ↦ (let bad : false ≡ true = sym w.0 ∙ e in absurd (cc))
]
mark-is m (Identifier n w) e = absurd (cc)
mark-is m (TypeVariable n) e = absurd (cc)
mark-is m (SchematicType n i) e = absurd (cc)
mark-is m (SchematicTerm n i) e = absurd (cc)
mark-is m (Bound k) e = absurd (cc)
mark-is m (Numeral n) e = absurd (cc)
mark-is m Other e = absurd (cc)

pub mark-next : (m : Mark) (found : Lexeme) (old new : List Lexeme) → old ≡ found ∷ new → is_mark m found ≡ true → old ≡ Marked m ∷ new
mark-next m found old new e is = e ∙ ap (λ z. z ∷ new) (mark-is m found is)

pub next-left : (ls : List Lexeme) (at : ℕ) (found : Lexeme) → at < length ls → found ≡ get_or ls at found → drop at ls ≡ found ∷ drop (at + 1) ls
next-left ls at found h e = drop_more ls at found h ∙ ap (λ z. z ∷ drop (at + 1) ls) (sym e)

-- ---- lines
-- the lines read so far, and those behind them
abbrev pub HasLines : List Node → List Lexeme → List Lexeme → Type 0
HasLines read old now = (more : List Node) → AreLines more now → AreLines (read ++ more) old

pub lines-begun : (read : List Node) (ls : List Lexeme) → read ≡ [] → HasLines read ls ls
lines-begun read ls e more are = rw e are

pub lines-more : (read : List Node) (line : Node) (old now new : List Lexeme) → HasLines read old now → IsNode line now (Marked mark.Bar ∷ new) → HasLines (read ++ line ∷ []) old new
lines-more read line old now new have is more are = subst (λ z. AreLines z old) (sym (append_assoc read (line ∷ []) more)) (have (line ∷ more) (new, is, are))

pub lines-end : (read : List Node) (old now : List Lexeme) → HasLines read old now → now ≡ Marked mark.End ∷ Marked mark.SourceEnd ∷ [] → AreLines read old
lines-end read old now have e = subst (λ z. AreLines z old) (append-nil read) (have [] e)

-- ---- items
abbrev pub HasItems : List Item → List Lexeme → List Lexeme → Type 0
HasItems read old now = (more : List Item) (lines : List Node) → AreItems more lines now → AreItems (read ++ more) lines old

pub items-begun : (read : List Item) (ls : List Lexeme) → read ≡ [] → HasItems read ls ls
items-begun read ls e more lines are = rw e are

pub items-more : (read : List Item) (i : Item) (old now new : List Lexeme) → HasItems read old now → IsItem i now (Marked mark.Bar ∷ new) → HasItems (read ++ i ∷ []) old new
items-more read i old now new have is more lines are = subst (λ z. AreItems z lines old) (sym (append_assoc read (i ∷ []) more)) (have (i ∷ more) lines (new, is, are))

pub items-end : (read : List Item) (old now : List Lexeme) → HasItems read old now → (lines : List Node) → AreLines lines now → AreItems read lines old
items-end read old now have lines are = subst (λ z. AreItems z lines old) (append-nil read) (have [] lines are)

-- ---- what is pushed onto the lists
pub lines-pushed : (before after : List own.Node) (x : own.Node) (old now new : List Lexeme) → after ≡ before ++ x ∷ [] → HasLines (seen_lines before) old now → IsNode (seen_node x) now (Marked mark.Bar ∷ new)
    → HasLines (seen_lines after) old new
lines-pushed before after x old now new e have is =
    subst (λ z. HasLines z old new) (sym (ap seen_lines e ∙ map-append seen_node before (x ∷ []))) (lines-more (seen_lines before) (seen_node x) old now new have is)

pub items-pushed : (before after : List their.Item) (x : their.Item) (old now new : List Lexeme) → after ≡ before ++ x ∷ [] → HasItems (seen_items before) old now → IsItem (seen_item x) now (Marked mark.Bar ∷ new)
    → HasItems (seen_items after) old new
items-pushed before after x old now new e have is =
    subst (λ z. HasItems z old new) (sym (ap seen_items e ∙ map-append seen_item before (x ∷ []))) (items-more (seen_items before) (seen_item x) old now new have is)
