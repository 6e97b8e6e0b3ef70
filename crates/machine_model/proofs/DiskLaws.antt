-- What a ready disk leaves while no call is made of it, and that the layers of every machine are proper ones.
use Rattle.std.proofs.Common.{◌≡◌, inl, ℕ, false, List, Option, sym, subst, arith}
use Rattle.std.specs.FinMap.{same_map, slice_cmp-IsAntisymmetric, nat_cmp-IsAntisymmetric}
use Rattle.std.proofs.lemmas.Cmp.{nat_list_cmp_total}
use Rattle.outside_world.specs.Disk.{View, IsImage, IsKnown}
use Rattle.outside_world.specs.Moments.{LeavesOnly, InEachImage}
use Rattle.outside_world.specs.Objects.{Objects}
use Rattle.machine_model.specs.Machine.{Machine}
use Rattle.machine_model.specs.Disks.{IsReady, StandsUntil}

-- where no name is touched, the objects are the one image
pub settled_image : (v : View) → ((n : List ℕ) → v.touched n ≡ false) → (image : Objects) → IsImage v image → image ≡ v.objects
settled_image v settled image is = same_map nat_list_cmp_total (slice_cmp-IsAntisymmetric nat_cmp-IsAntisymmetric) image v.objects (λ n. is.same n (settled n))

pub ready_images : (m end : Option Machine) (v : View) → IsReady m end v → InEachImage v (StandsUntil end)
ready_images m end v ready image is = subst (StandsUntil end) (sym (settled_image v ready.settled image is)) ready.stands

-- the second premise is the disk's law `only_now`
pub ready_leaves : (m end : Option Machine) (v : View) → (IsKnown v → (image : Objects) → v.left_since v.moment image → IsImage v image) → IsReady m end v → LeavesOnly v v (StandsUntil end)
ready_leaves m end v only ready = record {
  later = omega arith;
  each = λ image left. ready_images m end v ready image (only ready.known image left);
  before = λ t image le left. inl left;
}
