-- Answers that are values or faults.
use Rattle.std.specs.Prelude.{IfOk, IfErr, IfSome, IsErrAnd, OnOk, Option, Some, None}
use Rattle.std.proofs.Common.{◌≡◌, ◌⊎◌, Result, Ok, Err, ◌∙◌, ap, sym, inl, inr}

-- what `?` returns at its exit, by what `From` makes of the callee's fault
pub err_is : {X F : Type 0} {fault : F} (result : Result X F) → IsErrAnd result (λ it. it ≡ fault) → result ≡ Err fault
err_is (Ok value) is = absurd is
err_is {F = F} (Err it) is = ap (λ (f : F). Err f) is

-- the answer is this fault, or one of two others
abbrev pub IsOneOf : {X F : Type 0} → Result X F → F → F → F → Type 0
IsOneOf answer fault memory read = (answer ≡ Err fault) ⊎ ((answer ≡ Err memory) ⊎ (answer ≡ Err read))

pub same_err : {X F : Type 0} (one other : F) → ◌≡◌ {A = Result X F} (Err one) (Err other) → one ≡ other
same_err one other e = cc

pub no_ok : {X F : Type 0} (value : X) (fault : F) → ◌≡◌ {A = Result X F} (Ok value) (Err fault) → ⊥
no_ok value fault e = cc

pub none_met : {X F : Type 0} (memory source : F) (read : Result X F) (value : X) (fault : F) → read ≡ Ok value
    → IsOneOf read fault memory source → ⊥
none_met memory source read value fault is one =
    elim one [
      | inl e ↦ no_ok value fault (sym is ∙ e)
      | inr b ↦ elim b [ inl e ↦ no_ok value memory (sym is ∙ e) | inr e ↦ no_ok value source (sym is ∙ e) ]
    ]

pub same_ok : {X F : Type 0} (one other : X) → ◌≡◌ {A = Result X F} (Ok one) (Ok other) → one ≡ other
same_ok one other e = cc

-- what holds of each such value, or fault, holds of one that is there
pub if_ok_map : {X F : Type 0} {P Q : X → Type 0} (result : Result X F) → ((value : X) → P value → Q value) → IfOk result P → IfOk result Q
if_ok_map (Ok value) f holds = f value holds
if_ok_map (Err fault) f holds = tt

pub if_err_map : {X F : Type 0} {P Q : F → Type 0} (result : Result X F) → ((fault : F) → P fault → Q fault) → IfErr result P → IfErr result Q
if_err_map (Ok value) f holds = tt
if_err_map (Err fault) f holds = f fault holds

pub if_some_map : {X : Type 0} {P Q : X → Type 0} (option : Option X) → ((value : X) → P value → Q value) → IfSome option P → IfSome option Q
if_some_map None f holds = tt
if_some_map (Some value) f holds = f value holds

pub on_ok_map : {X F P Q : Type 0} (result : Result X F) → (P → Q) → OnOk result P → OnOk result Q
on_ok_map (Ok value) f holds = f holds
on_ok_map (Err fault) f holds = tt
