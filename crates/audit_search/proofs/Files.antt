-- The files of an audit by their bytes. Assumes nothing.
use Rattle.std.proofs.Common.{◌≡◌, ℕ, ◌<◌, List, [], map, length, get_or, vec_items, Vec, sym, ap, ◌∙◌, subst}
use Rattle.std.specs.declared.alloc.Global.{Global}
use Rattle.std.proofs.lemmas.List.{get_or-map, length-map}

-- how many there are, and those of the i-th
module _ (files : List (Vec ℕ Global)) where
  pub files-count : length files ≡ length (map (vec_items {X = ℕ} {Z = Global}) files)
  files-count = sym (length-map files (vec_items {X = ℕ} {Z = Global}))

  pub files-below : (i : ℕ) → i < length files → i < length (map (vec_items {X = ℕ} {Z = Global}) files)
  files-below i l = subst (λ m. i < m) files-count l

  pub file-at : (i : ℕ) (f : Vec ℕ Global) (bs : List ℕ) → i < length files → f ≡ get_or files i f → bs ≡ vec_items f → bs ≡ get_or (map (vec_items {X = ℕ} {Z = Global}) files) i []
  file-at i f bs l is e = e ∙ ap vec_items is ∙ sym (get_or-map (vec_items {X = ℕ} {Z = Global}) files i f [] l)
