-- BACKUP INTO LATEST up to the layers of its subdirectory.
use Rattle.std.proofs.Common.{◌≡◌, ℕ, Bool, List, [], ◌++◌, Option, Some, None, sym, ap, subst, ◌∙◌}
use Rattle.mvcc_keys.specs.Times.{Time}
use Rattle.history_model.specs.Histories.{Table}
use Rattle.layer_book.specs.Books.{name_in}
use Rattle.layer_book.specs.Subdirectories.{subdirectories_of}
use Rattle.script_grammar.specs.declared.backups.Src.TheVariants.{Latest}
use Rattle.reply_texts.specs.declared.refusals.Refusal.TheVariants.{NoSuchBackup}
use Rattle.machine_model.specs.Machine.{Machine, Stepped, refused, with_found}
use Rattle.machine_model.specs.Backups.{ending, increment_in, source_among, with_source}
use Rattle.cluster_core.specs.ClusterView.{ClusterState}
use Rattle.cluster_core.specs.Standing.{StandsFor, machine_of}
use Rattle.cluster_core.specs.Backing.{IsEnding}
use Rattle.cluster_core.proofs.Ending.{ending-is}
use Rattle.cluster_core.proofs.Sources.{subdirectories-are}

-- LATEST, and what is done in its subdirectory
abbrev pub after-latest : Machine → List ℕ → Bool → Time → Time → Stepped
after-latest m collection history end clock = with_source m Latest collection (λ s. increment_in m collection s history end clock)

module _ (c : ClusterState) (collection : List ℕ) (history : Bool) (at : Option Time) (x : Time × Time) (ends : IsEnding c.clock at x) where
  over-book : (tables : List Table) (o : Option (List ℕ × Time)) → source_among Latest (subdirectories_of name_in collection (c.book.layers ++ [])) ≡ o
      → after-latest (machine_of c tables) collection history x.0 x.1 ≡ with_found (machine_of c tables) NoSuchBackup o (λ s. increment_in (machine_of c tables) collection s history x.0 x.1)
  over-book tables o is = ap (λ (s : Option (List ℕ × Time)). with_found (machine_of c tables) NoSuchBackup s (λ s. increment_in (machine_of c tables) collection s history x.0 x.1)) (ap (source_among Latest) (subdirectories-are c tables collection) ∙ is)

  pub latest-is : (s : List ℕ × Time) → source_among Latest (subdirectories_of name_in collection (c.book.layers ++ [])) ≡ Some s → (m : Machine) → StandsFor c m → ending m at (after-latest m collection history) ≡ increment_in m collection s history x.0 x.1
  latest-is s among m stands =
      ending-is c m stands at x (after-latest m collection history) ends
      ∙ subst (λ (n : Machine). after-latest n collection history x.0 x.1 ≡ increment_in n collection s history x.0 x.1) (sym stands.machine_is) (over-book stands.tables (Some s) among)

  pub latest-none : source_among Latest (subdirectories_of name_in collection (c.book.layers ++ [])) ≡ None → (m : Machine) → StandsFor c m → ending m at (after-latest m collection history) ≡ refused m NoSuchBackup
  latest-none none m stands =
      ending-is c m stands at x (after-latest m collection history) ends
      ∙ subst (λ (n : Machine). after-latest n collection history x.0 x.1 ≡ refused n NoSuchBackup) (sym stands.machine_is) (over-book stands.tables None none)
