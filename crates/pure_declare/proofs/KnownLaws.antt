-- Classes that are looked up are declared.
use Rattle.std.proofs.Common.{◌≡◌, ◌<◌, ℕ, ◌+◌, List, [], ◌∷◌, ◌++◌, Some, get_or, take, length, refl, sym, subst, inl, inr}
use Rattle.std.specs.Prelude.{Option}
use Rattle.pure_text.specs.Lists.{IsIn, Each, EachTwo}
use Rattle.pure_text.proofs.ListLaws.{in-append_right, two-append}
use Rattle.pure_text.proofs.LoopLaws.{longer_by}
use Rattle.pure_definitions.specs.Types.Order.{Class}
use Rattle.pure_definitions.specs.Declarations.Decl.{classes_of, IsDeclaredClass}
use Rattle.pure_order.specs.OrderTables.Classes.{IsDeclared}
use Rattle.pure_order.specs.OrderTables.Unknown.{IsFirstUnknown}
use Rattle.pure_logic.specs.Content.{Content, IsContent}
use Rattle.pure_lookup.specs.Meaning.{classes}
use Rattle.pure_lookup.specs.LookUps.{IsFoundName}
use Rattle.pure_lookup.specs.Laws.{IsInSession}
use Rattle.pure_lookup.proofs.MeaningLaws.{found_is_declared}
use Rattle.pure_certify.proofs.PartLemmas.{class_declared}
use Rattle.pure_elab.specs.Found.{vocabulary_of}
use Rattle.pure_elab.proofs.FoundLaws.{content_has_vocabulary}
use Rattle.pure_declare.specs.Lookups.{AreWritten}

-- One turn more of a loop that relates lists.
pub two_more : {A B : Type 0} (R : A → B → Type 0) (xs : List A) (i : ℕ) (a : A) (ys zs : List B) (b : B) → i < length xs → a ≡ get_or xs i a → EachTwo R (take i xs) ys → R a b → zs ≡ ys ++ b ∷ [] → EachTwo R (take (i + 1) xs) zs
two_more R xs i a ys zs b within is h r more = rw (longer_by xs i a within is, more) (two-append R (take i xs) (a ∷ []) ys (b ∷ []) h (r, tt))

module _ (texts : List (List ℕ)) (Q : Content) (s : IsInSession texts Q) (content : IsContent Q) where
  pub class-known : (w : List ℕ) (c : ℕ) → (vocabulary_of texts Q).class_written w ≡ Some c → IsDeclaredClass Q.declarations c
  class-known w c e = found_is_declared texts Q classes w c (subst (λ (o : Option ℕ). IsFoundName texts Q classes w o) e ((content_has_vocabulary texts Q s content).classes_found w))

  pub classes-known : (ws : List (List ℕ)) (cs : List ℕ) → AreWritten (vocabulary_of texts Q) ws cs → Each (IsDeclaredClass Q.declarations) cs
  classes-known [] [] h = tt
  classes-known [] (c ∷ cs) h = absurd h
  classes-known (w ∷ ws) [] h = absurd h
  classes-known (w ∷ ws) (c ∷ cs) h = (class-known w c h.0, classes-known ws cs h.1)

  pub classes-among : (ws : List (List ℕ)) (cs : List ℕ) → AreWritten (vocabulary_of texts Q) ws cs → (c : ℕ) → IsIn c cs → IsDeclared (classes_of Q.declarations) c
  classes-among [] [] h c m = absurd m
  classes-among [] (d ∷ ds) h c m = absurd h
  classes-among (w ∷ ws) [] h c m = absurd m
  classes-among (w ∷ ws) (d ∷ ds) h c (inl e) = subst (λ (x : ℕ). IsDeclared (classes_of Q.declarations) x) (sym e) (class_declared Q.declarations d (class-known w d h.0))
  classes-among (w ∷ ws) (d ∷ ds) h c (inr m) = classes-among ws ds h.1 c m

pub first-in : (cs : List Class) (names : List ℕ) (c : ℕ) → IsFirstUnknown cs names c → IsIn c names
first-in cs names c h = subst (λ (l : List ℕ). IsIn c l) (sym h.is) (in-append_right c h.front (c ∷ h.rest) (inl refl))
