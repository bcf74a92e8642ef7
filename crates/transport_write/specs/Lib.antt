pub mod Writer
