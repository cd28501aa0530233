-- What a handle owns: nothing if it is null, else the box at its pointer.
use Rattle.std.specs.Prelude.{Option, Some, None}
use base.Fml.{Fml, ftrue, fex}
use denote.RattleType.{RattleType}
use denote.RawPtr.{Ptr, block_ptr, null_ptr}
use Rattle.std.specs.declared.alloc.Global.{Global}
use Rattle.std.specs.contracts.impls.GlobalAllocator.TheImpl.{ghosts}
use Rattle.std.specs.Box.Ownership.{box_owns}

-- no such memory
abbrev pub nowhere : Fml
nowhere = fex ⊥ (λ _. ftrue)

abbrev pub handle_owns : (R : RattleType) → Global → Ptr → Option R.Denot → Fml
handle_owns R a null_ptr None = ftrue
handle_owns R a null_ptr (Some x) = nowhere
handle_owns R a (block_ptr b o) None = nowhere
handle_owns R a (block_ptr b o) (Some x) = box_owns (ghosts.dealloc_token a) R (block_ptr b o) x
