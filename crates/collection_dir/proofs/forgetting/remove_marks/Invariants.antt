use Rattle.std.proofs.Common.{◌≡◌, ◌++◌, ℕ, List}
use Rattle.outside_world.specs.Disk.{Tells}
use Rattle.outside_world.specs.Moments.{ChangesOnly, NoName}
use Rattle.outside_world.proofs.Runs.{Run}
use Rattle.layer_model.specs.declared.names.Part.TheVariants.{Mark}
use Rattle.layer_model.specs.Layers.{LayerObjects}
use Rattle.collection_dir.specs.Footprints.{AtMarks, removals}
use Rattle.collection_dir.specs.Safety.{AreAbsent, IsKept, MayUnmark}
use Rattle.collection_dir.proofs.Steps.{Bare}
use Rattle.collection_dir.proofs.forgetting.remove_marks.Given as goal

abbrev pub invariant-loop-i : goal.invariant-loop-i
invariant-loop-i g l = record {
  run : (w : LayerObjects) (older : List ℕ) → MayUnmark w older l.layer l.chunks (g.D.Disk.view l.fn.disk) → Run (IsKept (AtMarks l.layer l.chunks) w older (g.D.Disk.view l.fn.disk)) (Bare (AtMarks l.layer l.chunks) w older (g.D.Disk.view l.fn.disk)) (g.D.Disk.view l.fn.disk) (g.D.Disk.view l.disk);
  absent : Tells (g.D.Disk.view l.fn.disk) → AreAbsent l.layer Mark l.i (g.D.Disk.view l.disk).objects;
  calls : Tells (g.D.Disk.view l.fn.disk) → (g.D.Disk.view l.disk).calls ≡ (g.D.Disk.view l.fn.disk).calls ++ removals l.layer Mark l.i;
  changes : ChangesOnly NoName (AtMarks l.layer l.chunks) (g.D.Disk.view l.fn.disk) (g.D.Disk.view l.disk);
  faults : (g.D.Disk.view l.disk).faults ≡ (g.D.Disk.view l.fn.disk).faults;
}
