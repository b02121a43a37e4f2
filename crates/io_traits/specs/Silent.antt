-- A disk that tells nothing.
use Rattle.std.proofs.Common.{[], false, IsTrue}
use Rattle.io_traits.specs.DiskState.{DiskState}

-- what a disk tells that isn't honest; none of it means anything
abbrev pub silent : DiskState
silent = record { honest = false; reads = []; image = λ c. ⊥; moment = 0; image_since = λ t c. ⊥ }

-- it isn't honest, proved; the proof stands here since an impl names it
pub not_honest : {A : Type 0} → IsTrue silent.honest → A
not_honest is = absurd (let bad : ⊥ = cc in bad)
