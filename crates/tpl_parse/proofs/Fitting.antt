-- The variables around each open control stay among those that are declared.
use Rattle.std.proofs.Common.{◌≡◌, ℕ, ◌≤◌, Bool, false, List, [], ◌∷◌, ◌++◌, length, take, refl, sym, subst, arith}
use Rattle.std.proofs.lemmas.List.{take_at, take-append-le, length-append, length-take-le}
use Rattle.tpl_token.proofs.Marks.{either}
use Rattle.tpl_build.specs.declared.definition.FoundDefinition.{FoundDefinition}
use Rattle.tpl_parse.proofs.FormsSay.{Fits}
use Rattle.tpl_build.specs.Building.{builder_of, with_else, else_from, else_names, first_names, closed_control, closed_from, piped_builder, done}
use Rattle.tpl_build.specs.declared.frame.OpenForm.{OpenForm}
use Rattle.tpl_build.specs.declared.frame.OpenForm.TheVariants as frame
use Rattle.tpl_build.specs.declared.action.ActionKind.{ActionKind}
use Rattle.tpl_build.specs.declared.action.ActionKind.TheVariants as action_kind
use Rattle.tpl_build.specs.declared.action.Opening.{Opening}
use Rattle.tpl_build.specs.declared.action.Purpose.{Purpose}
use Rattle.tpl_build.specs.declared.action.Purpose.TheVariants as purpose
use Rattle.tpl_build.specs.declared.builder.Builder.{Builder}
use Rattle.tpl_tree.specs.Trees.{NodesData}
use Rattle.tpl_tree.specs.declared.pipe.Pipe.{Pipe}

abbrev pub FitsIn : Builder → Type 0
FitsIn n = Fits n.frames n.variables

-- with more variables
fits_more : (frames : List OpenForm) (variables more : List (List ℕ)) → Fits frames variables → Fits frames (variables ++ more)
fits_more [] variables more h = tt
fits_more (frame.Definition d ∷ frames) variables more h = h
fits_more (frame.Control c ∷ frames) variables more h =
    (omega (arith, h.0, length-append variables more), subst (Fits frames) (sym (take-append-le c.around.variables variables more h.0)) h.1)

-- a control is opened
fits_opened : (n : Builder) (names : List (List ℕ)) → FitsIn n → (length n.variables ≤ length (n.variables ++ names)) × Fits n.frames (take (length n.variables) (n.variables ++ names))
fits_opened n names h = (omega (arith, length-append n.variables names), subst (Fits n.frames) (sym (take_at n.variables names (length n.variables) refl)) h)

-- its `else` part begins
fits_else : (frames : List OpenForm) (n : Builder) → Fits frames n.variables → n.frames ≡ frames → FitsIn (else_from frames n)
fits_else [] n h e = subst (λ fs. Fits fs n.variables) (sym e) h
fits_else (frame.Definition d ∷ frames) n h e = subst (λ fs. Fits fs n.variables) (sym e) h
fits_else (frame.Control c ∷ frames) n h e =
    let k = c.around.variables in
    let names = else_names c.control in
    let long : length (take k n.variables) ≡ k = length-take-le k n.variables h.0 in
    (omega (arith, long, length-append (take k n.variables) names), subst (Fits frames) (sym (take_at (take k n.variables) names k long)) h.1)

pub fits_with_else : (n : Builder) → FitsIn n → FitsIn (with_else n)
fits_with_else n h = fits_else n.frames n h refl

-- the innermost of what is open is closed
fits_closed : (frames : List OpenForm) (o : Opening) (body : NodesData) (variables : List (List ℕ)) (in_range : Bool) (room : ℕ) (blank : Bool) (found : List FoundDefinition) (fs : List OpenForm) → Fits frames variables → FitsIn (closed_from frames o (builder_of fs body variables in_range room blank found))
fits_closed [] o body variables in_range room blank found fs h = tt
fits_closed (frame.Definition d ∷ frames) o body variables in_range room blank found fs h = h
fits_closed (frame.Control c ∷ frames) o body variables in_range room blank found fs h = either c.chained
    (λ t. rw t (fits_closed frames o (closed_control frames c (builder_of fs body variables in_range room blank found)).body (take c.around.variables variables) c.around.in_range c.around.room false found frames h.1))
    (λ f. rw f h.1)

fits_piped : (p : Purpose) (q : Pipe) (line end : ℕ) (n : Builder) → FitsIn n → FitsIn (piped_builder p q line end n)
fits_piped purpose.Write q line end n h = h
fits_piped (purpose.Declare x) q line end n h = fits_more n.frames n.variables (x ∷ []) h
fits_piped (purpose.Assign x) q line end n h = h
fits_piped (purpose.Control c chained) q line end n h = fits_opened n (first_names c) h
fits_piped (purpose.Template name) q line end n h = h
fits_piped (purpose.Block name word) q line end n h = h

pub fits_done : (d : ActionKind) (o : Opening) (end : ℕ) (n : Builder) → FitsIn n → FitsIn (done d o end n)
fits_done (action_kind.Piped p q) o end n h = fits_piped p q o.line end n h
fits_done action_kind.Break o end n h = h
fits_done action_kind.Continue o end n h = h
fits_done (action_kind.Call name) o end n h = h
fits_done action_kind.Else o end n h = h
fits_done action_kind.End o end n h = fits_closed n.frames o n.body n.variables n.in_range n.room n.blank n.found n.frames h
fits_done (action_kind.Define name line) o end n h = h
