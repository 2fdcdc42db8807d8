-- What each pair of a renaming keeps.
use Rattle.std.proofs.Common.{◌≡◌, ◌∙◌, ℕ, Bool, true, false, not, ◌==◌, List, filter, Option, Some, None, is_some, option_map, refl, sym, ap, subst, true≢false, cond}
use Rattle.std.specs.Option.{option_or}
use Rattle.std.specs.List.{AllByRecursion, list_any}
use Rattle.std.proofs.lemmas.Option.{none-some}
use Rattle.byte_fields.proofs.Facts.{and_of, eq_of, not_of}
use Rattle.file_paths.specs.Path.{folder_of}
use Rattle.file_paths.proofs.Order.{tied_path}
use Rattle.tree_values.specs.declared.node.Node.TheVariants.{File}
use Rattle.cmd_capture.specs.declared.job.JobRow.{JobRow}
use Rattle.mod_log.specs.declared.sketched.SketchEffect.{SketchEffect}
use Rattle.temp_names.specs.declared.candidate.Candidate.{Candidate}
use Rattle.temp_names.specs.declared.candidate.Likeness.{Likeness}
use Rattle.temp_names.specs.declared.candidate.Likeness.TheVariants.{Group, GroupAndPrint}
use Rattle.temp_names.specs.declared.pairs.Renamed.{Renamed}
use Rattle.temp_names.specs.Candidates.{client_candidates, replay_candidates}
use Rattle.temp_names.specs.Renaming.{has_path, is_same_group, is_alike, rank, counterpart, replays_left, clients_left, by_place, partner, renamed, pairs, renaming, new_clients, new_replays}
use Rattle.temp_names.specs.Laws.{IsWithinGroup, IsOfNewFiles, IsOfUnequal, GroupsKeepTheirNames, OnlyNewFilesAreRenamed, EqualPathsStay}
use Rattle.temp_names.proofs.Rising.{some_same, some_of, all_filter, all_passing, all_both, all_found, got}
use Rattle.temp_names.proofs.Sides.{IsOfClient, IsOfReplay, clients_are, replays_are, puts_are_candidates, files_are_candidates, stands}

-- ---- partners

alike_group : (l : Likeness) (c d : Candidate) → is_alike l c d ≡ true → is_same_group c d ≡ true
alike_group Group c d e = e
alike_group GroupAndPrint c d e = (and_of (is_same_group c d) _ e).0

-- a counterpart is one of the replay's candidates, and like its client's
pub counterpart_sound : (P : Candidate → Type 0) (l : Likeness) (cs rs : List Candidate) → AllByRecursion P rs → (c r : Candidate)
    → counterpart l cs rs c ≡ Some r → P r × (is_alike l c r ≡ true)
unfolding counterpart
counterpart_sound P l cs rs all c r e = (
  got P (filter (is_alike l c) rs) (rank l cs c) r (all_filter P (is_alike l c) rs all) e,
  got (λ d. is_alike l c d ≡ true) (filter (is_alike l c) rs) (rank l cs c) r
      (all_passing (λ d. is_alike l c d ≡ true) (is_alike l c) (λ d so. so) rs) e,
)

pub only_if : (b : Bool) (o : Option Candidate) (r : Candidate) → cond b o None ≡ Some r → o ≡ Some r
only_if true o r e = e
only_if false o r e = absurd (none-some r e)

first_sound : (Q : Candidate → Type 0) (a b : Option Candidate) → ((r : Candidate) → a ≡ Some r → Q r) → ((r : Candidate) → b ≡ Some r → Q r)
    → (r : Candidate) → option_or a b ≡ Some r → Q r
first_sound Q None b f g r e = g r e
first_sound Q (Some x) b f g r e = f r e

pub partner_sound : (P : Candidate → Type 0) (cs rs : List Candidate) → AllByRecursion P rs → (c r : Candidate)
    → partner cs rs c ≡ Some r → P r × (is_same_group c r ≡ true)
unfolding partner
partner_sound P cs rs all c r e =
    first_sound (λ d. P d × (is_same_group c d ≡ true)) (counterpart GroupAndPrint cs rs c) (by_place (clients_left cs rs) (replays_left cs rs) c)
    (λ d so.
    let sound = counterpart_sound P GroupAndPrint cs rs all c d so in
    (sound.0, alike_group GroupAndPrint c d sound.1))
    (λ d so. counterpart_sound P Group (clients_left cs rs) (replays_left cs rs) (all_filter P _ rs all) c d (only_if _ _ d so))
    r e

-- ---- pairs

module _ (P Q : Candidate → Type 0) (R : Renamed → Type 0) (shows : (c r : Candidate) → P c → Q r → is_same_group c r ≡ true → R (renamed c r)) where
  pair_shows : (c : Candidate) (o : Option Candidate) (pair : Renamed) → P c
      → ((r : Candidate) → o ≡ Some r → Q r × (is_same_group c r ≡ true)) → option_map (renamed c) o ≡ Some pair → R pair
  pair_shows c None pair of_c so e = absurd (none-some pair e)
  pair_shows c (Some r) pair of_c so e = subst R (some_same (renamed c r) pair e) (shows c r of_c (so r refl).0 (so r refl).1)

  -- what follows from what is known of both
  pub all_pairs : (cs rs : List Candidate) → AllByRecursion P cs → AllByRecursion Q rs → AllByRecursion R (pairs cs rs)
  all_pairs cs rs of_cs of_rs =
      all_found P R (λ c. option_map (renamed c) (partner cs rs c))
      (λ c pair e of_c. pair_shows c (partner cs rs c) pair of_c (λ r so. partner_sound Q cs rs of_rs c r so) e)
      cs of_cs

-- ---- laws

module _ (templates : List (List ℕ)) (effects : List SketchEffect) (job_rows rows : List JobRow) where
  abbrev IsClient : Candidate → Type 0
  IsClient c = IsOfClient templates effects job_rows rows c × (list_any (has_path c.path) (replay_candidates templates job_rows rows) ≡ false)

  abbrev IsReplay : Candidate → Type 0
  IsReplay r = IsOfReplay templates effects job_rows rows r × (list_any (has_path r.path) (client_candidates templates effects job_rows rows) ≡ false)

  clients : AllByRecursion IsClient (new_clients templates effects job_rows rows)
  clients =
      all_both (IsOfClient templates effects job_rows rows) (λ c. list_any (has_path c.path) (replay_candidates templates job_rows rows) ≡ false) (new_clients templates effects job_rows rows)
      (all_filter (IsOfClient templates effects job_rows rows) _ (client_candidates templates effects job_rows rows) (clients_are templates effects job_rows rows))
      (all_passing (λ c. list_any (has_path c.path) (replay_candidates templates job_rows rows) ≡ false)
      (λ c. not (list_any (has_path c.path) (replay_candidates templates job_rows rows))) (λ c so. not_of _ so) (client_candidates templates effects job_rows rows))

  replays : AllByRecursion IsReplay (new_replays templates effects job_rows rows)
  replays =
      all_both (IsOfReplay templates effects job_rows rows) (λ r. list_any (has_path r.path) (client_candidates templates effects job_rows rows) ≡ false) (new_replays templates effects job_rows rows)
      (all_filter (IsOfReplay templates effects job_rows rows) _ (replay_candidates templates job_rows rows) (replays_are templates effects job_rows rows))
      (all_passing (λ c. list_any (has_path c.path) (client_candidates templates effects job_rows rows) ≡ false)
      (λ c. not (list_any (has_path c.path) (client_candidates templates effects job_rows rows))) (λ c so. not_of _ so) (replay_candidates templates job_rows rows))

  pub all_renamed : (R : Renamed → Type 0) → ((c r : Candidate) → IsClient c → IsReplay r → is_same_group c r ≡ true → R (renamed c r))
      → AllByRecursion R (renaming templates effects job_rows rows)
  all_renamed R shows =
      all_pairs IsClient IsReplay R shows (new_clients templates effects job_rows rows) (new_replays templates effects job_rows rows) clients replays

pub within_groups : GroupsKeepTheirNames
within_groups templates effects job_rows rows =
    all_renamed templates effects job_rows rows (IsWithinGroup templates) (λ c r of_c of_r alike.
    let parts = and_of (c.template == r.template) _ alike in
    record {
      one_folder = sym (tied_path (folder_of c.path) (folder_of r.path) parts.1);
      one_template = of_r.0.named ∙ ap some_of (sym (eq_of c.template r.template parts.0)) ∙ sym of_c.0.named;
      fits_one = ap is_some of_c.0.named;
    })

pub only_new : OnlyNewFilesAreRenamed
only_new templates effects job_rows rows up =
    all_renamed templates effects job_rows rows (IsOfNewFiles effects job_rows rows) (λ c r of_c of_r alike. record {
      from_is = record {
        is_new = of_r.0.is_new;
        is_file = (of_r.0.is_row.0, of_r.0.is_row.1, stands rows (record { path = r.path; node = File of_r.0.is_row.0 of_r.0.is_row.1 }) up of_r.0.is_row.2);
      };
      to_is = of_c.0.put;
    })

pub equal_stay : EqualPathsStay
equal_stay templates effects job_rows rows up =
    all_renamed templates effects job_rows rows (IsOfUnequal effects job_rows rows) (λ c r of_c of_r alike. record {
      from_is_not_put = λ new. true≢false (sym (puts_are_candidates templates effects job_rows rows r.path r.template new of_r.0.named) ∙ of_r.1);
      to_is_no_file = λ new. true≢false (sym (files_are_candidates templates effects job_rows rows c.path c.template new of_c.0.named) ∙ of_c.1);
    })
