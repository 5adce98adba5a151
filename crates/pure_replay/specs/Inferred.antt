-- What a node infers from the conclusions of the earlier lines, without their trees.
use Rattle.std.specs.Prelude.{◌≡◌, ℕ, List, Some, map, slice_get}
use Rattle.pure_logic.specs.Content.{Content}
use Rattle.pure_record.specs.Lines.{Node, Axiom, Assume, AllIntro, AllElim, ImpIntro, ImpElim, Beta, Refl, Subst, Ext, Iff}
use Rattle.pure_replay.specs.Conclusion.{Conclusion}
use Rattle.pure_replay.specs.Figures.{GivesAxiom, GivesAssume, GivesAllIntro, GivesAllElim, GivesImpliesIntro, GivesImpliesElim, GivesBeta, GivesRefl, GivesSubst, GivesExt, GivesIff}
use Rattle.pure_replay.specs.Lines.{Line}

-- what the lines conclude, in order
abbrev pub conclusions_of : List Line → List Conclusion
conclusions_of = map (λ l. l.conclusion)

-- The conclusion with this number has the property.
abbrev pub HasAt : List Conclusion → ℕ → (Conclusion → Type 0) → Type 0
HasAt cs n property = (c : Conclusion) × (slice_get cs n ≡ Some c) × property c

abbrev pub Infers : Content → (earlier : List Conclusion) → Node → Conclusion → Type 0
Infers Q cs (Axiom name typs terms) c = GivesAxiom Q name typs terms c
Infers Q cs (Assume A) c = GivesAssume Q A c
Infers Q cs (AllIntro x n) c = HasAt cs n (λ e. GivesAllIntro Q x e c)
Infers Q cs (AllElim t n) c = HasAt cs n (λ e. GivesAllElim Q t e c)
Infers Q cs (ImpIntro A n) c = HasAt cs n (λ e. GivesImpliesIntro Q A e c)
Infers Q cs (ImpElim m n) c = HasAt cs m (λ e. HasAt cs n (λ f. GivesImpliesElim e f c))
Infers Q cs (Beta t) c = GivesBeta Q t c
Infers Q cs (Refl t) c = GivesRefl Q t c
Infers Q cs (Subst p x y) c = GivesSubst Q p x y c
Infers Q cs (Ext f g) c = GivesExt Q f g c
Infers Q cs (Iff A B) c = GivesIff Q A B c
