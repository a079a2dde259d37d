-- Laws of the listing.
--   TextLaws, LineLaws    the texts of a line's fields, and fields one behind the other
--   SoughtLaws            a line that is sought by its number, part by part
--   FilledLaws            no line is empty
--   ToldLaws              the record that reading gives of a file tells what the file says, and its listing
--   Examples              the listings of docs/SHOW.md, computed
pub mod TextLaws
pub mod LineLaws
pub mod SoughtLaws
pub mod FilledLaws
pub mod ToldLaws
mod Examples
