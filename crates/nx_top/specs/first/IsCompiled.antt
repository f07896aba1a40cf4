-- Programs that fit in the text, and what an image of one holds. nx_link will take its place.
use Rattle.std.specs.Prelude.{◌≡◌, ℕ, ◌+◌, ◌<◌, ◌≤◌, List, [], length, All}
use Rattle.nx_ram.specs.declared.prog_image.ProgImage.{ProgImage}
use Rattle.nx_top.specs.first.Layout.{text_start, data_start}
use Rattle.nx_top.specs.first.Program.{Program}
use Rattle.nx_top.specs.first.Compiled.{text_of, main_at}

-- few short strings, and a status of one byte
pub record FitsText (p : Program) : Type 0 where
  pub few : length p.writes ≤ 16
  pub short : All (λ s. length s ≤ 255) p.writes
  pub status : p.status ≤ 255

-- the text that a program is compiled to, in its place
pub record IsCompiled (image : ProgImage) (p : Program) : Type 0 where
  pub text : image.text ≡ text_of p
  pub text_at : image.text_at ≡ text_start
  pub main : image.main ≡ main_at p
  pub end_group : image.end_group ≡ text_start
  pub end_thread : image.end_thread ≡ text_start + 12

-- the places of a program's parts in the flat build, where no program has data
pub record IsLaidOut (image : ProgImage) (name : List ℕ) : Type 0 where
  pub name_is : image.name ≡ name
  pub text_at : image.text_at ≡ text_start
  pub main_from : text_start ≤ image.main
  pub main_to : image.main < text_start + length image.text
  pub data_at : image.data_at ≡ data_start (length image.text)
  pub no_data : image.init ≡ []
