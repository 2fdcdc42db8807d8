-- Candidates that are alike stand side by side where they are sorted.
use Rattle.std.proofs.Common.{◌≡◌, Bool, true, false, ◌==◌, List, [], ◌∷◌, refl, sym, true≢false, filter}
use Rattle.std.specs.Str.{bytes_eq}
use Rattle.std.specs.Ordering.{ordering_then}
use Rattle.std.specs.declared.cmp.Ordering.{Ordering}
use Rattle.std.specs.declared.cmp.Ordering.TheVariants.{Less, Equal, Greater}
use Rattle.std.proofs.lemmas.Slice.Eq.{bytes_eq-Decides}
use Rattle.std.proofs.lemmas.List.Elements.{filter_agree}
use Rattle.file_paths.specs.Path.{is_same_path, folder_of}
use Rattle.file_paths.proofs.Order.{tied_path, path_tied}
use Rattle.temp_names.specs.declared.candidate.Candidate.{Candidate}
use Rattle.temp_names.specs.declared.candidate.Likeness.{Likeness}
use Rattle.temp_names.specs.declared.candidate.Likeness.TheVariants.{Group, GroupAndPrint}
use Rattle.temp_names.specs.Renaming.{is_same_group, is_alike}
use Rattle.temp_names.specs.Inside.{is_tied, class_of}
use Rattle.byte_fields.proofs.Facts.{eq_holds, eq_of, and_holds, and_of}

pub then_equal : (o r : Ordering) → ordering_then (ordering_then o Equal) r ≡ ordering_then o r
then_equal Less r = refl
then_equal Equal r = refl
then_equal Greater r = refl

-- tests that follow from one another are one
one_test : (a b : Bool) → (a ≡ true → b ≡ true) → (b ≡ true → a ≡ true) → a ≡ b
one_test true true to from = refl
one_test true false to from = absurd (true≢false (sym (to refl)))
one_test false true to from = absurd (true≢false (sym (from refl)))
one_test false false to from = refl

same_class : (l : Likeness) (c d : Candidate) → class_of l d ≡ class_of l c → is_alike l c d ≡ true
same_class Group c d e =
    let templates : c.template ≡ d.template = cc in
    let folders : folder_of c.path ≡ folder_of d.path = cc in
    and_holds (c.template == d.template) (is_same_path (folder_of c.path) (folder_of d.path))
    (eq_holds c.template d.template templates) (path_tied (folder_of c.path) (folder_of d.path) folders)
same_class GroupAndPrint c d e =
    let templates : c.template ≡ d.template = cc in
    let prints : c.print ≡ d.print = cc in
    let folders : folder_of c.path ≡ folder_of d.path = cc in
    and_holds (is_same_group c d) (bytes_eq c.print d.print)
    (and_holds (c.template == d.template) (is_same_path (folder_of c.path) (folder_of d.path))
    (eq_holds c.template d.template templates) (path_tied (folder_of c.path) (folder_of d.path) folders))
    ((bytes_eq-Decides c.print d.print).1 prints)

class_same : (l : Likeness) (c d : Candidate) → is_alike l c d ≡ true → class_of l d ≡ class_of l c
class_same Group c d e =
    let each = and_of (c.template == d.template) (is_same_path (folder_of c.path) (folder_of d.path)) e in
    let templates : d.template ≡ c.template = sym (eq_of c.template d.template each.0) in
    let folders : folder_of d.path ≡ folder_of c.path = sym (tied_path (folder_of c.path) (folder_of d.path) each.1) in
    λ i. (templates i ∷ []) ∷ folders i
class_same GroupAndPrint c d e =
    let outer = and_of (is_same_group c d) (bytes_eq c.print d.print) e in
    let each = and_of (c.template == d.template) (is_same_path (folder_of c.path) (folder_of d.path)) outer.0 in
    let templates : d.template ≡ c.template = sym (eq_of c.template d.template each.0) in
    let folders : folder_of d.path ≡ folder_of c.path = sym (tied_path (folder_of c.path) (folder_of d.path) each.1) in
    let prints : d.print ≡ c.print = sym ((bytes_eq-Decides c.print d.print).0 outer.1) in
    λ i. (templates i ∷ []) ∷ prints i ∷ folders i

-- candidates are alike just where they have one class
pub alike_tied : (l : Likeness) (c d : Candidate) → is_tied (class_of l) c d ≡ is_alike l c d
alike_tied l c d =
    one_test (is_tied (class_of l) c d) (is_alike l c d)
    (λ tied. same_class l c d (tied_path (class_of l d) (class_of l c) tied))
    (λ alike. path_tied (class_of l d) (class_of l c) (class_same l c d alike))

pub alike_filter : (l : Likeness) (c : Candidate) (cs : List Candidate) → filter (is_tied (class_of l) c) cs ≡ filter (is_alike l c) cs
alike_filter l c cs = filter_agree (is_tied (class_of l) c) (is_alike l c) (alike_tied l c) cs
