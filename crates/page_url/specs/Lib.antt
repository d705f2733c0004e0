pub mod ShownSchemes
