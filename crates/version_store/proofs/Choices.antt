-- What a choice has, as events and as the newest events.
use Rattle.std.proofs.Common.{◌≡◌, ◌∙◌, ℕ, true, ap, refl, List, [], ◌∷◌, ◌++◌, take, Option, Some, None}
use Rattle.std.specs.Global.{Vec}
use Rattle.mvcc_keys.specs.Times.{Time, time_le}
use Rattle.mvcc_keys.specs.declared.entries.Entry.{Entry}
use Rattle.range_tombstones.specs.declared.upto.Upto.{Upto}
use Rattle.version_store.specs.Tables.{Bytes, Tables}
use Rattle.version_store.specs.Rows.{KeysAscend, chosen_at, chosen_in, events_in, from_of, is_after, is_event, newest_rows, row_chosen, rows_from, start_of}
use Rattle.version_store.specs.MapHolding.{KeepsAll, table_in}
use Rattle.version_store.specs.declared.choice.Choice.{Choice}
use Rattle.version_store.specs.declared.choice.Choice.TheVariants.{All, Newest}
use Rattle.version_store.specs.declared.row.Version.{Version}
use Rattle.version_store.specs.declared.table_versions.TableVersions.{TableVersions}
use Rattle.version_store.proofs.MapLists.{events-found, events-none}
use Rattle.version_store.proofs.MapPlaces.{newest-events-found, newest-events-none}

chosen-all : (from : Time) (upto : Upto) (place : Option (Bytes × Time)) (es : List (Vec ℕ × List Version)) → chosen_in (All from upto) place es ≡ events_in (is_event from upto place) es
unfolding chosen_in events_in
chosen-all from upto place [] = refl
chosen-all from upto place (e ∷ es) = ap (λ (xs : List Entry). row_chosen (All from upto) place e.0.items e.1 ++ xs) (chosen-all from upto place es)

chosen-newest : (from : Time) (upto : Upto) (place : Option (Bytes × Time)) (es : List (Vec ℕ × List Version)) → chosen_in (Newest from upto) place es ≡ events_in (is_after place) (newest_rows from upto es)
unfolding chosen_in events_in
chosen-newest from upto place [] = refl
chosen-newest from upto place (e ∷ es) = ap (λ (xs : List Entry). row_chosen (Newest from upto) place e.0.items e.1 ++ xs) (chosen-newest from upto place es)

pub chosen-found : (tables : List (ℕ × TableVersions)) (id : ℕ) (t : TableVersions) (choice : Choice) (place : Option (Bytes × Time)) (n : ℕ) (seen left : List Entry) → table_in tables id ≡ Some t → KeysAscend t.rows.entries → left ≡ take n seen → take n seen ≡ take n (chosen_in choice place (rows_from (start_of place) t.rows.entries)) → (h : Tables) → KeepsAll tables h → time_le (h.threshold id) (from_of choice) ≡ true → left ≡ chosen_at h id choice place n
chosen-found tables id t (All from upto) place n seen left e up cut found h all le = events-found tables id t from upto place n seen left e up cut (found ∙ ap (take n) (chosen-all from upto place (rows_from (start_of place) t.rows.entries))) h all le
chosen-found tables id t (Newest from upto) place n seen left e up cut found h all le = newest-events-found tables id t from upto place n seen left e up cut (found ∙ ap (take n) (chosen-newest from upto place (rows_from (start_of place) t.rows.entries))) h all le

pub chosen-none : (tables : List (ℕ × TableVersions)) (id : ℕ) (choice : Choice) (place : Option (Bytes × Time)) (n : ℕ) (h : Tables) → table_in tables id ≡ None → KeepsAll tables h → time_le (h.threshold id) (from_of choice) ≡ true → [] ≡ chosen_at h id choice place n
chosen-none tables id (All from upto) place n h e all le = events-none tables id from upto place n h e all le
chosen-none tables id (Newest from upto) place n h e all le = newest-events-none tables id from upto place n h e all le
