-- Between a `Place` and a handle for C nothing changes but the name: both own the same. Assumes `Logic`.
use Rattle.std.proofs.Common.{◌≡◌, List, [], ◌∷◌, ◌++◌, refl, sym, subst}
use seplogic.Ra.Ura.{Ura}
use mir.Syntax.{seq, assign, place, field, copy, rv_opd, aggregate, return, Sym, Fn, Callee, Tys, tcons, tnil, ty_ptr, ty_struct, local, value_local}
use mir.Val.{Val}
use base.Logic.{SProp, ent, emp, id⊢}
use base.Fml.{Fml}
use prog.Wp.{WpFn, Closed}
use prog.Model.{Model}
use types.Logic.{Logic}
use types.Kit.{‵, raw, ◌⊛◌, ◌$◌, ◌∵◌, !, qed, by, move, keep, drop, split, fsplit, fjoin, suffices, use0, rewrite}
use types.Run.{stop, fld, of_opd, no_more, and_then, returns, enter}
use types.ByLocal.{alloc_all, pass_all, free_all, look_at, get, get_in, sets}
use types.Part.{agg, sub, whole}
use contract.Lifetimes.{Lfts}
use contract.Running.{Running, tables}
use denote.Exit.{yes, Last}
use denote.RattleType.{RattleType, owns}
use denote.RawPtr.{ptr_val}
use denote.Signature.{types_at, plain}
use denote.Steps.{nothing}
use denote.Param.{layout}
use denote.Triple.Clauses.{Ended, Clauses, AtExit, at_exit, closing}
use denote.Triple.Entry.{Args, alive}
use denote.Triple.Spec.{Meets}
use denote.Triple.Walked.{Stays, AllGo, stay_dropped, walk_of}
use Rattle.core.proofs.atomic.Steps.{Ptr-Good}
use Rattle.std.proofs.raw_atomic.Walks.{proved_at, leaves}
use Rattle.krb_c.specs.contracts.place.Place as owner
use Rattle.krb_c.proofs.Values.{both}
use Rattle.krb_c.proofs.Places.{Z, place_good, place_in, place_out}

-- the code that takes the one apart and makes the other
abbrev pub moving : Sym → Sym → Fn
moving to from = let F : Tys = tcons ty_ptr (tcons (layout Z) tnil) in record {
  lifetimes = 0;
  outlives = [];
  ty_params = [];
  givens = 0;
  params = 1;
  locals = local (ty_struct to F) value_local ∷ local (ty_struct from F) value_local ∷ local ty_ptr value_local ∷ local (layout Z) value_local ∷ local ty_ptr value_local ∷ [];
  body = seq (assign (place 2 []) (rv_opd (copy (place 1 (field 0 ∷ []))))) (seq (assign (place 3 []) (rv_opd (copy (place 1 (field 1 ∷ [])))))
      (seq (assign (place 4 []) (rv_opd (copy (place 2 [])))) (seq (assign (place 0 []) (aggregate (copy (place 4 []) ∷ copy (place 3 []) ∷ []))) return)));
}

module _ (V P Q : RattleType) where
  abbrev pub ended : Ended
  ended = record { signature = record { lifetimes = 0; outlives = []; params = plain (λ _. P) ∷ []; result = plain (λ _. Q) }; kept = (yes, tt) }

  abbrev pub stays : Stays ended.signature.params ended.kept
  stays = (stay_dropped (plain (λ _. P)) yes, tt)

  abbrev R : RattleType
  R = owner.the_row V

  -- `here` is what is owned, and `to` the value that is made
  pub moved : {M : Type 1} {𝓤 : Ura M} (𝓛 : Logic 𝓤) (𝓜 : Model 𝓤 𝓛.H) (𝓡 : Running 𝓤 𝓛.H 𝓜) (m n : Sym) (here : P.Denot → R.Denot) (to : P.Denot → Q.Denot)
      → ((d : P.Denot) (vs : List Val) → P.own_val d vs ≡ R.own_val (here d) vs) → ((d : P.Denot) (vs : List Val) → R.own_val (here d) vs ≡ Q.own_val (to d) vs)
      → ((d : P.Denot) → Last (P.exit yes) d) → AllGo 𝓛 0 ended.signature.params ended.kept stays → (c : Clauses 𝓤 ended)
      → ((κs : Lfts 0) (a : Args ended.signature κs) (g : (c κs a).ghost) (e : AtExit ended κs) → ent 𝓤 (emp 𝓤) ((c κs a).ensures g (to a.0) e))
      → (k : Callee) → Closed 𝓤 𝓛.H (tables 𝓤 𝓛.H 𝓜 𝓡 𝓡.env).C (tables 𝓤 𝓛.H 𝓜 𝓡 𝓡.env).Λ k (moving m n)
      → Meets 𝓛 ended.signature ((tables 𝓤 𝓛.H 𝓜 𝓡 𝓡.env).C k) (closing 𝓛 ended c)
  moved {M} {𝓤} 𝓛 𝓜 𝓡 m n here to into out last go c ensures k closed =
      let 𝓣 = tables 𝓤 𝓛.H 𝓜 𝓡 𝓡.env in let fn = moving m n in
      proved_at 𝓛 ended stays c 𝓜 𝓡 go k fn closed (λ z are.
      let κs = z.0.0 in let d = z.0.3.0 in let e = here d in let vs : List Val = z.0.4.0 in let Post : Val → SProp 𝓤 = (walk_of 𝓛 ended stays c).post z in let Run : List Val → SProp 𝓤 = λ ws. WpFn 𝓤 𝓛.H 𝓣.C 𝓣.Λ fn ws Post in
      qed 𝓛 ((raw (alive 𝓛 ended.signature κs z.0.1) ⊛ ‵ (owns (types_at ended.signature.params κs) z.0.3 z.0.4)) ∷ raw ((c κs z.0.3).requires z.1) ∷ []) ∵
      move ! (1 ∷ []) $ drop ! $ split ! $ move ! (1 ∷ []) $ fsplit ! $ rewrite ! 0 (λ (F : Fml). ‵ F) (into d vs) refl $ place_out V ! e vs (λ h ws fits.
      let w : Val = both (ptr_val e.at) h in place_in V ! e.at h e.alloc e.value $ rewrite ! 0 (λ (F : Fml). ‵ F) (out d (w ∷ [])) refl $
      suffices ! (Run (w ∷ [])) (subst (λ (us : List Val). ent 𝓤 (Run (w ∷ [])) (Run us)) (sym (λ i. ws i ++ [])) (id⊢ 𝓤 (Run (w ∷ [])))) $
      enter ! 𝓣.C 𝓣.Λ fn (w ∷ []) Post $ alloc_all ! (λ l. pass_all ! refl (place_good V e.at h fits, tt) $
      sets ! (of_opd ! (get_in ! (fld ! refl (stop !)) (sub ! 0 refl (whole !)))) refl (Ptr-Good e.at) $ sets ! (of_opd ! (get_in ! (fld ! refl (stop !)) (sub ! 1 refl (whole !)))) refl fits $
      sets ! (of_opd ! (get ! refl)) refl (Ptr-Good e.at) $ sets ! (agg ! (and_then ! (get ! refl) (and_then ! (get ! refl) (no_more !)))) refl (place_good V e.at h fits) $
      use0 𝓛 (raw ((c κs z.0.3).ensures z.1 (to d) (at_exit ended κs z.0.3 (last d, tt)))) (ensures κs z.0.3 z.1 (at_exit ended κs z.0.3 (last d, tt))) $ nothing ! $ nothing ! $ fjoin ! $
      returns ! (look_at ! 0 refl) $ free_all ! refl $ keep ! (4 ∷ 0 ∷ 2 ∷ 1 ∷ []) $ by ! (leaves 𝓛 ended stays c z w (to d) (last d, tt) (tt, tt)))))
