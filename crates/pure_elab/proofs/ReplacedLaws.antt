-- Types and terms whose variables are numbered and replaced, one part after the other.
use Rattle.std.proofs.Common.{◌≡◌, ℕ, ◌+◌, ◌<◌, ◌≤◌, List, [], ◌∷◌, ◌++◌, map, length, take, take_all, get_or, refl, ap, sym, ◌∙◌, arith}
use Rattle.pure_definitions.specs.Types.Typ.{Typ, TFree, TVar, Con, Typs, none, also, typs_of}
use Rattle.pure_definitions.specs.Terms.Term.{Term, Const, Free, Var, Bound, Abs, App}
use Rattle.pure_definitions.specs.Terms.Subst.{TypBind, typ_image, typ_instance, inst_typ, retyped_variable}
use Rattle.pure_definitions.specs.Terms.Measures.{typ_index_above, typs_index_above, term_index_above}
use Rattle.pure_definitions.proofs.InstanceLemmas.{typ_image-fixed, typs_instance-of, images-more}
use Rattle.pure_definitions.proofs.MeasureLemmas.{typ_stays, term_stays}
use Rattle.pure_tunify.specs.Occurrences.{schematics, schematics_of}
use Rattle.pure_tunify.specs.Working.{twice_applied}
use Rattle.pure_elab.specs.declared.numbers.Variable.{Variable}
use Rattle.pure_elab.specs.Numbered.{numbered, term_variables, unknown_of, unknowns}
use Rattle.pure_elab.specs.Numbers.{entries_from, IsImageIn, IsNumberedTyp, AreNumberedTyps, IsNumberedTerm, IsTermNumbered}
use Rattle.pure_elab.proofs.NumberedLaws.{numbered-again}
use Rattle.pure_elab.proofs.NumbersLaws.{numbered-stays}
use Rattle.pure_elab.proofs.WalkLaws.{numbered_append}

-- A type or a term without schematic variables has none to number.
mutual
  schematics_none : (T : Typ) → typ_index_above T ≡ 0 → schematics T ≡ []
  schematics_none (TFree x s) e = refl
  schematics_none (TVar x i s) e = absurd (omega arith)
  schematics_none (Con k ts) e = schematics_of_none ts e

  schematics_of_none : (ts : Typs) → typs_index_above ts ≡ 0 → schematics_of ts ≡ []
  schematics_of_none none e = refl
  schematics_of_none (also t ts) e = λ i. schematics_none t (omega arith) i ++ schematics_of_none ts (omega arith) i

term_variables_none : (t : Term) → term_index_above t ≡ 0 → term_variables t ≡ []
term_variables_none (Const c T) e = schematics_none T e
term_variables_none (Free x T) e = schematics_none T e
term_variables_none (Var x i T) e = absurd (omega arith)
term_variables_none (Bound n) e = refl
term_variables_none (Abs T b) e = λ i. schematics_none T (omega arith) i ++ term_variables_none b (omega arith) i
term_variables_none (App f a) e = λ i. term_variables_none f (omega arith) i ++ term_variables_none a (omega arith) i

module _ (image : ℕ → List ℕ → Typ) (first : ℕ) where
  numbered_further : (now next : List TypBind) (vs more : List Typ) → next ≡ numbered image first now vs → numbered image first now (vs ++ more) ≡ numbered image first next more
  numbered_further now next vs more added = numbered_append image first now vs more ∙ ap (λ b. numbered image first b more) (sym added)

  pub typs_turn : (now next : List TypBind) (xs ys zs : List Typ) (i : ℕ) (x y : Typ) → i < length xs → x ≡ get_or xs i x
      → ((more : List Typ) → ys ≡ map (typ_instance (typ_image (numbered image first now more))) (take i xs)) → zs ≡ ys ++ y ∷ []
      → next ≡ numbered image first now (schematics x) → IsNumberedTyp image first next x y
      → (more : List Typ) → zs ≡ map (typ_instance (typ_image (numbered image first next more))) (take (i + 1) xs)
  typs_turn now next xs ys zs i x y within is before pushed added done more =
      let further = numbered_further now next (schematics x) more added in
      let front : ys ≡ map (typ_instance (typ_image (numbered image first next more))) (take i xs) = before (schematics x ++ more) ∙ ap (λ b. map (typ_instance (typ_image b)) (take i xs)) further in
      images-more (typ_image (numbered image first next more)) xs ys zs i x y front pushed (done more) within is

  pub typ_kept : (now next : List TypBind) (vs : List Typ) (t u : Typ) → next ≡ numbered image first now vs → IsNumberedTyp image first now t u → IsNumberedTyp image first next t u
  typ_kept now next vs t u added h more = h (vs ++ more) ∙ ap (λ b. typ_instance (typ_image b) t) (numbered_further now next vs more added)

  pub term_kept : (now next : List TypBind) (vs : List Typ) (t u : Term) → next ≡ numbered image first now vs → IsNumberedTerm image first now t u → IsNumberedTerm image first next t u
  term_kept now next vs t u added h more = h (vs ++ more) ∙ ap (λ b. inst_typ (typ_image b) t) (numbered_further now next vs more added)

  pub none_added : (binds : List TypBind) (T : Typ) → typ_index_above T ≡ 0 → binds ≡ numbered image first binds (schematics T)
  none_added binds T e = sym (ap (numbered image first binds) (schematics_none T e))

  pub typ_unchanged : (binds : List TypBind) (T u : Typ) → u ≡ T → typ_index_above T ≡ 0 → IsNumberedTyp image first binds T u
  typ_unchanged binds T u same e more =
      let all = numbered image first binds more in
      same ∙ sym (typ_stays (typ_image all) (typ_image-fixed all) T e)

  pub variable_numbered : (old new : List TypBind) (x i : ℕ) (s : List ℕ) (t : Typ) → IsImageIn image first old new (TVar x i s) t → IsNumberedTyp image first new (TVar x i s) t
  variable_numbered old new x i s t h more = h.image_is ∙ sym (numbered-stays image first new more (TVar x i s) h.has)

  -- A constructor's type is made of the images of its arguments.
  pub con_numbered : (binds : List TypBind) (k : ℕ) (ts us : List Typ) (t : Typ) → AreNumberedTyps image first binds ts us → t ≡ Con k (typs_of us) → IsNumberedTyp image first binds (Con k (typs_of ts)) t
  con_numbered binds k ts us t h made more = made ∙ ap (Con k) (ap typs_of (h more) ∙ sym (typs_instance-of (typ_image (numbered image first binds more)) ts))

  -- A constructor applied to one type twice.
  pub twice_added : (old new : List TypBind) (k : ℕ) (t : Typ) → new ≡ numbered image first old (schematics t) → new ≡ numbered image first old (schematics (twice_applied k t))
  twice_added old new k t added =
      added ∙ sym (numbered-again image first old (schematics t)) ∙ sym (numbered_append image first (numbered image first old (schematics t)) (schematics t) []) ∙ sym (numbered_append image first old (schematics t) (schematics t ++ []))

  pub twice_numbered : (binds : List TypBind) (k : ℕ) (t u v : Typ) → IsNumberedTyp image first binds t u → v ≡ twice_applied k u → IsNumberedTyp image first binds (twice_applied k t) v
  twice_numbered binds k t u v h made more = made ∙ ap (twice_applied k) (h more)

  pub all_replaced : (binds : List TypBind) (xs ys : List Typ) (i : ℕ) → length xs ≤ i → ((more : List Typ) → ys ≡ map (typ_instance (typ_image (numbered image first binds more))) (take i xs)) → AreNumberedTyps image first binds xs ys
  all_replaced binds xs ys i full h more = h more ∙ ap (map (typ_instance (typ_image (numbered image first binds more)))) (take_all i xs full)

  pub term_unchanged : (binds : List TypBind) (t u : Term) → u ≡ t → term_index_above t ≡ 0 → IsTermNumbered image first binds binds t u
  term_unchanged binds t u same e = record {
    added = sym (ap (numbered image first binds) (term_variables_none t e));
    replaced = λ more.
        let typs = typ_image (numbered image first binds more) in
        same ∙ sym (term_stays typs (retyped_variable typs) (typ_image-fixed (numbered image first binds more)) (λ x T. refl) t e);
  }

  pub const_done : (old new : List TypBind) (c : ℕ) (T U : Typ) (u : Term) → u ≡ Const c U → new ≡ numbered image first old (schematics T) → IsNumberedTyp image first new T U → IsTermNumbered image first old new (Const c T) u
  const_done old new c T U u made added h = record { added = added; replaced = λ more. made ∙ ap (Const c) (h more) }

  pub free_done : (old new : List TypBind) (x : ℕ) (T U : Typ) (u : Term) → u ≡ Free x U → new ≡ numbered image first old (schematics T) → IsNumberedTyp image first new T U → IsTermNumbered image first old new (Free x T) u
  free_done old new x T U u made added h = record { added = added; replaced = λ more. made ∙ ap (Free x) (h more) }

  pub var_done : (old new : List TypBind) (x i : ℕ) (T U : Typ) (u : Term) → u ≡ Var x i U → new ≡ numbered image first old (schematics T) → IsNumberedTyp image first new T U → IsTermNumbered image first old new (Var x i T) u
  var_done old new x i T U u made added h = record { added = added; replaced = λ more. made ∙ ap (Var x i) (h more) }

  pub bound_done : (binds : List TypBind) (n : ℕ) (u : Term) → u ≡ Bound n → IsTermNumbered image first binds binds (Bound n) u
  bound_done binds n u same = record { added = refl; replaced = λ more. same }

  pub abs_done : (old now new : List TypBind) (T U : Typ) (b d u : Term) → u ≡ Abs U d → now ≡ numbered image first old (schematics T) → IsNumberedTyp image first now T U → IsTermNumbered image first now new b d → IsTermNumbered image first old new (Abs T b) u
  abs_done old now new T U b d u made added typ body = record {
    added = body.added ∙ ap (λ l. numbered image first l (term_variables b)) added ∙ sym (numbered_append image first old (schematics T) (term_variables b));
    replaced = λ more. made ∙ (λ i. Abs (typ_kept now new (term_variables b) T U body.added typ more i) (body.replaced more i));
  }

  pub app_done : (old now new : List TypBind) (f g a b u : Term) → u ≡ App g b → IsTermNumbered image first old now f g → IsTermNumbered image first now new a b → IsTermNumbered image first old new (App f a) u
  app_done old now new f g a b u made fun arg = record {
    added = arg.added ∙ ap (λ l. numbered image first l (term_variables a)) fun.added ∙ sym (numbered_append image first old (term_variables f) (term_variables a));
    replaced = λ more. made ∙ (λ i. App (term_kept now new (term_variables a) f g arg.added fun.replaced more i) (arg.replaced more i));
  }

-- The unknowns of an occurrence of a constant, from what the program makes.
pub unknowns_by : (first : ℕ) (start new : List TypBind) (declared : Typ) → start ≡ [] → new ≡ numbered unknown_of first start (schematics declared) → new ≡ unknowns first declared
unknowns_by first start new declared bare added = added ∙ ap (λ b. numbered unknown_of first b (schematics declared)) bare

pub unknowns_replaced : (first : ℕ) (new : List TypBind) (declared t : Typ) → new ≡ unknowns first declared → IsNumberedTyp unknown_of first new declared t → t ≡ typ_instance (typ_image (unknowns first declared)) declared
unknowns_replaced first new declared t are h = h [] ∙ ap (λ b. typ_instance (typ_image b) declared) are

-- The entries of a table without variables.
pub no_entries : (image : ℕ → List ℕ → Typ) (first : ℕ) (vs : List Variable) (many : List TypBind) → vs ≡ [] → many ≡ [] → entries_from image first vs ++ many ≡ []
no_entries image first vs many few bare = λ i. entries_from image first (few i) ++ bare i
