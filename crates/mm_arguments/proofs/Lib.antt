mod Reading
mod Building
