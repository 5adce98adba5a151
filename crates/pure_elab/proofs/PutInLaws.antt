-- A term whose parts are put in.
use Rattle.std.proofs.Common.{◌≡◌, ◌≢◌, ℕ, ◌-◌, List, Option, Some, None, refl, ap, sym, ◌∙◌, subst}
use Rattle.pure_definitions.specs.Types.Typ.{Typ, typ_size, typ_depth}
use Rattle.pure_definitions.specs.Terms.Term.{Term, Const, Free, Var, Bound, Abs, App, term_size, term_depth}
use Rattle.pure_definitions.specs.Terms.Subst.{TypBind, typ_instance, inst_typ, retyped_variable}
use Rattle.pure_definitions.specs.Terms.Measures.{term_index_above}
use Rattle.pure_definitions.specs.Terms.Limits.{Leaves}
use Rattle.pure_definitions.proofs.GrownLemmas.{leaves-abs, leaves-node, leaves-part_none}
use Rattle.pure_definitions.proofs.MeasureLemmas.{term_stays}
use Rattle.pure_tunify.specs.Settings.{composed}
use Rattle.pure_tunify.specs.declared.resolve.Resolved.{Resolved}
use Rattle.pure_tunify.specs.Working.{IsResolved, MakesTheSame}
use Rattle.pure_tunify.proofs.SettingLaws.{composed-fixed}
use Rattle.pure_elab.specs.declared.settled.SettledPart.{SettledPart}
use Rattle.pure_elab.specs.PutIn.{IsLeafPutIn, IsNodeOver, IsPutIn}

-- A term without schematic variables stays as it is.
pub stay_put : (sets : List TypBind) (t : Term) (left room : ℕ) (o : Option SettledPart) → term_index_above t ≡ 0 → IsPutIn t left room o → IsPutIn (inst_typ (composed sets) t) left room o
stay_put sets t left room o e h =
    subst (λ (u : Term). IsPutIn u left room o) (sym (term_stays (composed sets) (retyped_variable (composed sets)) (composed-fixed sets) (λ x T. refl) t e)) h

-- What a type resolved and a leaf made of it are, from what the program has of them.
pub leaf_made : (sets : List TypBind) (leaf : Typ → Term) (T : Typ) (left room : ℕ) (r : Resolved) (s : SettledPart) → IsResolved sets T left room (Some r) → s.term.value ≡ leaf r.typ → s.left ≡ r.left
    → IsLeafPutIn leaf (typ_instance (composed sets) T) left room (Some s)
leaf_made sets leaf T left room r s h made less = (made ∙ ap leaf h.0, subst (λ n. Leaves left room (typ_size (typ_instance (composed sets) T)) (typ_depth (typ_instance (composed sets) T)) (Some n)) (sym less) h.1)

module _ (typs : Typ → Typ) (left room : ℕ) (some : left ≢ 0) (deep : room ≢ 0) where
  pub const_put : (c : ℕ) (T : Typ) (o : Option SettledPart) → IsLeafPutIn (Const c) (typ_instance typs T) (left - 1) (room - 1) o → IsPutIn (inst_typ typs (Const c T)) left room o
  const_put c T None h = leaves-node left room _ _ _ _ None refl refl some deep h
  const_put c T (Some s) h = (h.0, leaves-node left room _ _ _ _ (Some s.left) refl refl some deep h.1)

  pub free_put : (x : ℕ) (T : Typ) (o : Option SettledPart) → IsLeafPutIn (Free x) (typ_instance typs T) (left - 1) (room - 1) o → IsPutIn (inst_typ typs (Free x T)) left room o
  free_put x T None h = leaves-node left room _ _ _ _ None refl refl some deep h
  free_put x T (Some s) h = (h.0, leaves-node left room _ _ _ _ (Some s.left) refl refl some deep h.1)

  pub var_put : (x i : ℕ) (T : Typ) (o : Option SettledPart) → IsLeafPutIn (Var x i) (typ_instance typs T) (left - 1) (room - 1) o → IsPutIn (inst_typ typs (Var x i T)) left room o
  var_put x i T None h = leaves-node left room _ _ _ _ None refl refl some deep h
  var_put x i T (Some s) h = (h.0, leaves-node left room _ _ _ _ (Some s.left) refl refl some deep h.1)

  pub abs_put : (T U : Typ) (b : Term) (rest : ℕ) (p o : Option SettledPart) → U ≡ typ_instance typs T → Leaves (left - 1) (room - 1) (typ_size (typ_instance typs T)) (typ_depth (typ_instance typs T)) (Some rest)
      → IsPutIn (inst_typ typs b) rest (room - 1) p → IsNodeOver (Abs U) p o → IsPutIn (inst_typ typs (Abs T b)) left room o
  abs_put T U b rest None None same domain body node = leaves-abs left room rest _ _ _ _ None some deep domain body
  abs_put T U b rest None (Some s) same domain body node = absurd node
  abs_put T U b rest (Some q) None same domain body node = absurd node
  abs_put T U b rest (Some q) (Some s) same domain body node = (
    node.0 ∙ (λ i. Abs (same i) (body.0 i)),
    leaves-abs left room rest _ _ _ _ (Some s.left) some deep domain (subst (λ n. Leaves rest (room - 1) (term_size (inst_typ typs b)) (term_depth (inst_typ typs b)) (Some n)) (sym node.1) body.1),
  )

  pub abs_none : (T : Typ) (b : Term) → Leaves (left - 1) (room - 1) (typ_size (typ_instance typs T)) (typ_depth (typ_instance typs T)) None → IsPutIn (inst_typ typs (Abs T b)) left room None
  abs_none T b h = leaves-part_none left room _ _ _ _ _ _ refl refl some deep h

  pub app_put : (f a : Term) (q : SettledPart) (p o : Option SettledPart) → IsPutIn (inst_typ typs f) (left - 1) (room - 1) (Some q) → IsPutIn (inst_typ typs a) q.left (room - 1) p → IsNodeOver (App q.term.value) p o
      → IsPutIn (inst_typ typs (App f a)) left room o
  app_put f a q None None fun arg node = leaves-abs left room q.left _ _ _ _ None some deep fun.1 arg
  app_put f a q None (Some s) fun arg node = absurd node
  app_put f a q (Some r) None fun arg node = absurd node
  app_put f a q (Some r) (Some s) fun arg node = (
    node.0 ∙ (λ i. App (fun.0 i) (arg.0 i)),
    leaves-abs left room q.left _ _ _ _ (Some s.left) some deep fun.1 (subst (λ n. Leaves q.left (room - 1) (term_size (inst_typ typs a)) (term_depth (inst_typ typs a)) (Some n)) (sym node.1) arg.1),
  )

  pub app_none : (f a : Term) → IsPutIn (inst_typ typs f) (left - 1) (room - 1) None → IsPutIn (inst_typ typs (App f a)) left room None
  app_none f a h = leaves-part_none left room _ _ _ _ _ _ refl refl some deep h

-- Settings that make the same of each type make the same of each term.
pub put_same : (sets others : List TypBind) → MakesTheSame sets others → (t : Term) → inst_typ (composed others) t ≡ inst_typ (composed sets) t
put_same sets others same (Const c T) = ap (Const c) (same T)
put_same sets others same (Free x T) = ap (Free x) (same T)
put_same sets others same (Var x i T) = ap (Var x i) (same T)
put_same sets others same (Bound k) = refl
put_same sets others same (Abs T b) = λ l. Abs (same T l) (put_same sets others same b l)
put_same sets others same (App f a) = λ l. App (put_same sets others same f l) (put_same sets others same a l)
